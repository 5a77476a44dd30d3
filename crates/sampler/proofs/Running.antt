-- The loop of a run of frames: what the frames left give, from the state now, is what the whole run gives. Assumes nothing.
use mathlib.Core.Path.{◌≡◌, refl, sym, ap, ◌∙◌, subst}
use mathlib.Core.List.{List, ◌++◌, append_assoc}
use Prim.Native.Nat.{ℕ, suc, ◌+◌, ◌-◌, ◌*◌, ◌≤◌, ◌<◌, zero-le}
use native.Mathlib.Nat.{le_trans, le_of_eq, mul-le-mul_right, suc-mul, zero-mul, sub-zero, add-sub_cancel_left}
use native.Mathlib.Omega.{arith}
use native.Mathlib.Numerals.{add-one}
use lib.ListN.{length, take, drop, length-append, length-drop, take-append-drop}
use lib.Seq.{length-take-le, take_at, drop_at}
use lib.Ieee.{Float}
use Rattle.common_types.specs.declared.Params.{Params}
use Rattle.sampler.specs.Samplers.{Steps, Turns, Framed, framed, Frames, entries_of, frames_of}
use Rattle.sampler.specs.declared.Sampler.{Sampler}
use Rattle.sampler.proofs.Entries.{kept_entries}

-- the entries that are done, in front
abbrev pub behind : List Float → Framed → Framed
behind front f = framed f.sampler (front ++ f.frame) f.memory

pub record Running (goal : Framed) (p : Params) (k n size count : ℕ) (s : Sampler) (io : List Float) (m : List ℕ) (a i : ℕ) : Type 0 where
  pub upto : i ≤ k
  pub entries : length io ≡ n
  pub whole : length m ≡ size
  pub channels : s.count ≡ count
  pub steps : 0 < k → Steps s count size
  pub room : k * count ≤ n
  pub starts : a ≡ i * count
  pub same : behind (take a io) (frames_of p (k - i) (framed s (drop a io) m)) ≡ goal

pub running_starts : (p : Params) (k : ℕ) (s : Sampler) (io : List Float) (m : List ℕ) → Turns s k (length io) (length m)
    → Running (frames_of p k (framed s io m)) p k (length io) (length m) s.count s io m 0 0
running_starts p k s io m h = record {
  upto = zero-le;
  entries = refl;
  whole = refl;
  channels = refl;
  steps = h.steps;
  room = h.entries;
  starts = sym (zero-mul s.count);
  same = ap (λ (j : ℕ). frames_of p j (framed s io m)) (sub-zero k);
}

module _ {goal : Framed} {p : Params} {k n size count : ℕ} {s : Sampler} {io : List Float} {m : List ℕ} {a i : ℕ} (f : Running goal p k n size count s io m a i) where
  pub running_ends : k ≤ i → Frames goal s io m
  unfolding frames_of
  running_ends h =
      let e : framed s (take a io ++ drop a io) m ≡ goal = sym (ap (λ (j : ℕ). behind (take a io) (frames_of p j (framed s (drop a io) m))) (none h)) ∙ f.same in
      let g : framed s io m ≡ goal = sym (ap (λ (l : List Float). framed s l m) (take-append-drop a io)) ∙ e in
      record { sampler = ap (λ (g : Framed). g.sampler) g; frame = ap (λ (g : Framed). g.frame) g; memory = ap (λ (g : Framed). g.memory) g }
    where
      none : k ≤ i → k - i ≡ 0
      none h = omega arith

  module _ (h : i < k) where
    -- the frame's entries lie in the run
    pub running_room : a + count ≤ length io
    running_room =
        le_trans (le_of_eq (ap (λ (b : ℕ). b + count) f.starts ∙ sym (suc-mul i count)))
        (le_trans (mul-le-mul_right count h) (le_trans f.room (le_of_eq (sym f.entries))))

    size_of : a + count - a ≡ count
    size_of = add-sub_cancel_left a count

    left : count ≤ length (drop a io)
    left = omega (arith, length-drop a io, running_room)

    -- and are as many as there are channels
    pub part_size : length (take (a + count - a) (drop a io)) ≡ count
    part_size = ap (λ (c : ℕ). length (take c (drop a io))) size_of ∙ length-take-le count (drop a io) left

    pub running_steps : Steps s (length (take (a + count - a) (drop a io))) (length m)
    running_steps =
        subst (λ (c : ℕ). Steps s c (length m)) (sym part_size) (subst (λ (z : ℕ). Steps s count z) (sym f.whole) (f.steps (le_trans (omega arith) h)))

    module _ (s' : Sampler) (last : List Float) (m' : List ℕ)
        (played : Frames (entries_of p (length (take (a + count - a) (drop a io))) 0 (framed s (take (a + count - a) (drop a io)) m)) s' last m')
        (long : length last ≡ length (take (a + count - a) (drop a io))) (kept : length m' ≡ length m) where
      rest : List Float
      rest = drop count (drop a io)

      run : List Float
      run = take a io ++ (last ++ drop (a + count - a) (drop a io))

      front : length (take a io ++ last) ≡ a + count
      front = omega (arith, length-append (take a io) last, length-take-le a io (omega (arith, running_room)), long, part_size)

      split : run ≡ (take a io ++ last) ++ rest
      unfolding run rest
      split = ap (λ (c : ℕ). take a io ++ (last ++ drop c (drop a io))) size_of ∙ sym (append_assoc (take a io) last (drop count (drop a io)))

      -- the frame, by the count of the record now
      one : entries_of p s.count 0 (framed s (take s.count (drop a io)) m) ≡ framed s' last m'
      one =
          ap (λ (c : ℕ). entries_of p c 0 (framed s (take c (drop a io)) m)) f.channels
          ∙ sym (ap (λ (c : ℕ). entries_of p c 0 (framed s (take c (drop a io)) m)) size_of)
          ∙ sym (ap (λ (c : ℕ). entries_of p c 0 (framed s (take (a + count - a) (drop a io)) m)) (part_size ∙ sym size_of))
          ∙ sym (λ t. framed (played.sampler t) (played.frame t) (played.memory t))

      later : Framed → List Float → List Float → Framed
      later g before l = behind before (behind g.frame (frames_of p (k - (i + 1)) (framed g.sampler l g.memory)))

      turn : behind (take a io) (frames_of p (suc (k - (i + 1))) (framed s (drop a io) m)) ≡ behind (take a io ++ last) (frames_of p (k - (i + 1)) (framed s' rest m'))
      unfolding frames_of rest later
      turn =
          ap (λ (g : Framed). later g (take a io) (drop s.count (drop a io))) one
          ∙ ap (λ (c : ℕ). later (framed s' last m') (take a io) (drop c (drop a io))) f.channels
          ∙ (let r = frames_of p (k - (i + 1)) (framed s' (drop count (drop a io)) m') in
          ap (λ (l : List Float). framed r.sampler l r.memory) (sym (append_assoc (take a io) last r.frame)))

      one_less : k - i ≡ suc (k - (i + 1))
      one_less = omega arith

      still : (s'.count ≡ s.count) × (s'.capacity ≡ s.capacity)
      still =
          let q = kept_entries p (length (take (a + count - a) (drop a io))) 0 (framed s (take (a + count - a) (drop a io)) m) in
          (ap (λ (r : Sampler). r.count) played.sampler ∙ q.count, ap (λ (r : Sampler). r.capacity) played.sampler ∙ q.capacity)

      pub running_on : Running goal p k n size count s' (take a io ++ (last ++ drop (a + count - a) (drop a io))) m' (a + count) (i + 1)
      unfolding run rest
      running_on = record {
        upto = omega arith;
        entries = ap length split ∙ length-append (take a io ++ last) (drop count (drop a io)) ∙ omega (arith, front, length-drop count (drop a io), length-drop a io, running_room, f.entries);
        whole = kept ∙ f.whole;
        channels = still.0 ∙ f.channels;
        steps = λ z. record { below = (f.steps z).below; parts = subst (λ (c : ℕ). count * c ≤ size) (sym still.1) (f.steps z).parts };
        room = f.room;
        starts = ap (λ (b : ℕ). b + count) f.starts ∙ sym (suc-mul i count) ∙ ap (λ (j : ℕ). j * count) (sym (add-one i));
        same = (λ t. behind (ap (take (a + count)) split t) (frames_of p (k - (i + 1)) (framed s' (ap (drop (a + count)) split t) m')))
            ∙ (λ t. behind (take_at (take a io ++ last) (drop count (drop a io)) (a + count) front t) (frames_of p (k - (i + 1)) (framed s' (drop_at (take a io ++ last) (drop count (drop a io)) (a + count) front t) m')))
            ∙ sym turn
            ∙ sym (ap (λ (j : ℕ). behind (take a io) (frames_of p j (framed s (drop a io) m))) one_less)
            ∙ f.same;
      }
