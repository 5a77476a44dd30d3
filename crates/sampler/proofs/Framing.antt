-- The loop of a frame: what the entries left give, from the state now, is what the whole frame gives, and so is what they move. Assumes nothing.
use mathlib.Core.Path.{◌≡◌, refl, sym, ap, ◌∙◌, subst}
use mathlib.Core.Bool.{Bool, cond}
use mathlib.Core.List.{List}
use Prim.Native.Nat.{ℕ, suc, ◌+◌, ◌-◌, ◌*◌, ◌≤◌, ◌<◌, zero-le}
use native.Mathlib.Nat.{le_trans, le_of_eq, mul-le-mul_right, suc-mul, sub-zero, zero-add, add-zero, add_assoc}
use native.Mathlib.Omega.{arith}
use lib.ListN.{length, get_or, set, length-set}
use lib.Ieee.{Float, nan}
use Rattle.binary32.specs.Leaves.{zero32}
use Rattle.refusals.proofs.Codes.{done_at, refused_at}
use Rattle.common_types.specs.declared.Params.{Params}
use Rattle.walks.proofs.Lists.Loops.{get_d_any}
use Rattle.sampler.specs.Refusals.{frame_number}
use Rattle.sampler.specs.Samplers.{Ready, Steps, channel_stepped_of, output_of, moved_at, memory_at, Framed, framed, Frames, entry_of, entries_of, entries_moved, framed_of, frame_moved}
use Rattle.sampler.specs.declared.Sampler.{Sampler}

pub record Framing (goal : Framed) (p : Params) (n size : ℕ) (s : Sampler) (io : List Float) (m : List ℕ) (j : ℕ) : Type 0 where
  pub upto : j ≤ n
  pub entries : length io ≡ n
  pub whole : length m ≡ size
  pub steps : Steps s n size
  pub same : entries_of p (n - j) j (framed s io m) ≡ goal

pub framing_starts : (p : Params) (s : Sampler) (io : List Float) (m : List ℕ) → Steps s (length io) (length m)
    → Framing (entries_of p (length io) 0 (framed s io m)) p (length io) (length m) s io m 0
framing_starts p s io m h = record {
  upto = zero-le;
  entries = refl;
  whole = refl;
  steps = h;
  same = ap (λ (k : ℕ). entries_of p k 0 (framed s io m)) (sub-zero (length io));
}

-- ---- the count that goes with it: each step moves 32 at most
pub record Summing (total : ℕ) (p : Params) (n : ℕ) (s : Sampler) (io : List Float) (m : List ℕ) (j moved : ℕ) : Type 0 where
  pub few : moved ≤ j * 32
  pub sum : moved + entries_moved p (n - j) j (framed s io m) ≡ total

pub summing_starts : (p : Params) (s : Sampler) (io : List Float) (m : List ℕ)
    → Summing (entries_moved p (length io) 0 (framed s io m)) p (length io) s io m 0 0
summing_starts p s io m = record { few = zero-le; sum = zero-add _ ∙ ap (λ (k : ℕ). entries_moved p k 0 (framed s io m)) (sub-zero (length io)) }

pub summing_ends : {total : ℕ} {p : Params} {n : ℕ} {s : Sampler} {io : List Float} {m : List ℕ} {j moved : ℕ} → Summing total p n s io m j moved → n ≤ j → moved ≡ total
unfolding entries_moved
summing_ends {total} {p} {n} {s} {io} {m} {j} {moved} f h =
    sym (add-zero moved) ∙ sym (ap (λ (k : ℕ). moved + entries_moved p k j (framed s io m)) (none h)) ∙ f.sum
  where
    none : n ≤ j → n - j ≡ 0
    none h = omega arith

-- ---- a turn, and the end
module _ {goal : Framed} {p : Params} {n size : ℕ} {s : Sampler} {io : List Float} {m : List ℕ} {j : ℕ} (f : Framing goal p n size s io m j) where
  pub framing_ready : j < n → Ready s j (length m)
  framing_ready h = record {
    below = omega (arith, f.steps.below);
    part = le_trans (le_of_eq (sym (suc-mul j s.capacity))) (le_trans (mul-le-mul_right s.capacity h) (le_trans f.steps.parts (le_of_eq (sym f.whole))));
  }

  pub framing_ends : n ≤ j → Frames goal s io m
  unfolding entries_of
  framing_ends h =
      let e : framed s io m ≡ goal = sym (ap (λ (k : ℕ). entries_of p k j (framed s io m)) (none h)) ∙ f.same in
      record { sampler = ap (λ (g : Framed). g.sampler) e; frame = ap (λ (g : Framed). g.frame) e; memory = ap (λ (g : Framed). g.memory) e }
    where
      none : n ≤ j → n - j ≡ 0
      none h = omega arith

  module _ (h : j < n) (s' : Sampler) (y : Float) (m' : List ℕ) (stepped : s' ≡ channel_stepped_of s j p (get_or io j nan) m) (output : y ≡ output_of s j p (get_or io j nan) m)
      (written : m' ≡ memory_at s j (get_or io j nan) m) (long : length m' ≡ length m) where
    one_less : n - j ≡ suc (n - (j + 1))
    one_less = omega arith

    is : get_or io j zero32 ≡ get_or io j nan
    is = get_d_any io j zero32 nan (omega (arith, f.entries))

    entry : entry_of p j (framed s io m) ≡ framed s' (set io j y) m'
    unfolding entry_of
    entry =
        ap (λ (x : Float). framed (channel_stepped_of s j p x m) (set io j (output_of s j p x m)) (memory_at s j x m)) is
        ∙ sym (λ i. framed (stepped i) (set io j (output i)) (written i))

    -- the count of the voices that have moved
    module _ (total moved now : ℕ) (f' : Summing total p n s io m j moved) (counted : now ≡ moved_at s j p (get_or io j nan) m) (few : now ≤ 32) where
      pub summing_on : Summing total p n s' (set io j y) m' (j + 1) (moved + now)
      unfolding entries_moved
      summing_on = record {
        few = omega (arith, f'.few, few);
        sum = add_assoc moved now _
            ∙ ap (λ (k : ℕ). moved + k) (λ i. (counted ∙ sym (ap (λ (x : Float). moved_at s j p x m) is)) i + entries_moved p (n - (j + 1)) (j + 1) (sym entry i))
            ∙ sym (ap (λ (k : ℕ). moved + entries_moved p k j (framed s io m)) one_less)
            ∙ f'.sum;
      }

    pub framing_on : Framing goal p n size s' (set io j y) m' (j + 1)
    unfolding entries_of channel_stepped_of
    framing_on = record {
      upto = omega arith;
      entries = length-set io j y ∙ f.entries;
      whole = long ∙ f.whole;
      steps = subst (λ (z : Sampler). Steps z n size) (sym stepped) (record { below = f.steps.below; parts = f.steps.parts });
      same = sym (ap (entries_of p (n - (j + 1)) (j + 1)) entry) ∙ sym (ap (λ (k : ℕ). entries_of p k j (framed s io m)) one_less) ∙ f.same;
    }

-- ---- the whole call
module _ (s : Sampler) (io : List Float) (p : Params) (m : List ℕ) where
  pub frame_refused : (frame_number s (length io) p (length m) ≡ 0 → ⊥) → Frames (framed_of s io p m) s io m
  unfolding framed_of
  frame_refused h = subst (λ (f : Framed). Frames f s io m) (sym (ap (λ (b : Bool). cond b (entries_of p (length io) 0 (framed s io m)) (framed s io m)) (refused_at _ h))) (record { sampler = refl; frame = refl; memory = refl })

  pub moved_refused : (frame_number s (length io) p (length m) ≡ 0 → ⊥) → frame_moved s io p m ≡ 0
  unfolding frame_moved
  moved_refused h = ap (λ (b : Bool). cond b (entries_moved p (length io) 0 (framed s io m)) 0) (refused_at _ h)

  pub moved_done : frame_number s (length io) p (length m) ≡ 0 → frame_moved s io p m ≡ entries_moved p (length io) 0 (framed s io m)
  unfolding frame_moved
  moved_done h = ap (λ (b : Bool). cond b (entries_moved p (length io) 0 (framed s io m)) 0) (done_at _ h)

  pub frame_done : {s' : Sampler} {io' : List Float} {m' : List ℕ} → frame_number s (length io) p (length m) ≡ 0
      → Frames (entries_of p (length io) 0 (framed s io m)) s' io' m' → Frames (framed_of s io p m) s' io' m'
  unfolding framed_of
  frame_done {s'} {io'} {m'} h f =
      subst (λ (g : Framed). Frames g s' io' m') (sym (ap (λ (b : Bool). cond b (entries_of p (length io) 0 (framed s io m)) (framed s io m)) (done_at _ h))) f
