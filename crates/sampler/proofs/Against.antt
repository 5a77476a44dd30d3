-- What the channels in use have against a change, as a walk over them finds it, and what it comes to for each call that asks. Assumes nothing.
use mathlib.Core.Path.{◌≡◌, refl, sym}
use mathlib.Core.Bool.{Bool, false, not, ◌&&◌, ◌||◌, or_assoc}
use mathlib.Core.List.{List, [], ◌∷◌}
use Prim.Native.Nat.{ℕ, zero, suc, ◌<◌}
use native.Mathlib.Omega.{arith}
use lib.Dec.{ltb, eqb}
use lib.ListN.{length, take, get_or}
use Rattle.std.specs.List.{list_any}
use Rattle.walks.proofs.Tests.{neither, or-false}
use Rattle.channel.specs.declared.Channel.{Channel}
use Rattle.channel.specs.declared.Ask.{Ask}
use Rattle.channel.specs.declared.Ask.TheVariants.{Voice, Samples, Choice, Delete}
use Rattle.channel.specs.declared.Against.{Against}
use Rattle.channel.specs.Heads.{holds_of}
use Rattle.channel.specs.Tables.{leaving_of, blocked_by, short_by}
use Rattle.channel.specs.Channels.{beside_in, uses_of, against_of, full_of}
use Rattle.sampler.specs.Refusals.{present, channel_at, records, any_full, any_recording, against_any}
use Rattle.sampler.specs.declared.Sampler.{Sampler}

-- ---- the walk: what has been found so far, and what the channels left add to it
module _ (capacity : ℕ) (a : Ask) where
  abbrev pub against_from : Bool → Bool → List Channel → Against
  against_from blocked short cs = record {
    blocked = blocked || list_any (λ (c : Channel). (against_of capacity a c).blocked) cs;
    short = short || list_any (λ (c : Channel). (against_of capacity a c).short) cs;
  }

  pub against_on : (blocked short : Bool) (c : Channel) (x : Against) (cs : List Channel) → x ≡ against_of capacity a c
      → against_from blocked short (c ∷ cs) ≡ against_from (blocked || x.blocked) (short || x.short) cs
  against_on blocked short c x cs e =
      let p : Channel → Bool = λ d. (against_of capacity a d).blocked in
      let q : Channel → Bool = λ d. (against_of capacity a d).short in
      rw e (λ i. record { blocked = sym (or_assoc blocked (p c) (list_any p cs)) i; short = sym (or_assoc short (q c) (list_any q cs)) i })

  pub against_ends : (blocked short : Bool) → ◌≡◌ {A = Against} (record { blocked = blocked; short = short }) (against_from blocked short [])
  against_ends blocked short = λ i. record { blocked = or-false blocked i; short = or-false short i }

-- ---- what it comes to
module _ (s : Sampler) where
  -- row 5
  pub against_voice : (against_any Voice s).blocked ≡ any_full s
  unfolding against_any blocked_by full_of
  against_voice = refl

  -- rows 15 and 18
  pub against_samples : (n : ℕ) → (against_any (Samples n) s).blocked ≡ any_recording s
  unfolding against_any blocked_by
  against_samples n = refl

  pub short_samples : (n : ℕ) → (against_any (Samples n) s).short ≡ list_any (λ (c : Channel). ltb (holds_of (beside_in s.capacity c) s.capacity c.head) n) (present s)
  unfolding against_any short_by
  short_samples n = refl

  -- row 21
  pub against_choice : (k : ℕ) → (against_any (Choice k) s).blocked ≡ list_any (λ (c : Channel). records c && not (eqb k c.head.chosen)) (present s)
  unfolding against_any blocked_by
  against_choice k = refl

  -- row 20
  pub against_delete : (k : ℕ) → (against_any (Delete k) s).blocked ≡ list_any (λ (c : Channel). uses_of k c || (records c && eqb k c.head.chosen)) (present s)
  unfolding against_any blocked_by leaving_of
  against_delete k = refl

-- ---- what holds of none of the channels in use holds of none of them by its number
module _ (s : Sampler) (p : Channel → Bool) (none : list_any p (present s) ≡ false) (j : ℕ) (below : j < s.count) (seated : j < length s.channels) where
  any_front : (l : List Channel) (n i : ℕ) (d : Channel) → list_any p (take n l) ≡ false → i < n → i < length l → p (get_or l i d) ≡ false
  any_front [] n i d h a b = absurd (omega arith)
  any_front (c ∷ l) zero i d h a b = absurd (omega arith)
  any_front (c ∷ l) (suc n) zero d h a b = (neither (p c) (list_any p (take n l)) h).0
  any_front (c ∷ l) (suc n) (suc i) d h a b = any_front l n i d (neither (p c) (list_any p (take n l)) h).1 (omega arith) (omega arith)

  pub none_at : p (channel_at s j) ≡ false
  none_at = any_front s.channels s.count j _ none below seated
