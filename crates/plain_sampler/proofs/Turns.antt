-- What is lent beside the record, entry by entry: what the entries of a frame, and of k frames, make of it is what the frame, and the frames in turn, make of it. Assumes nothing.
use mathlib.Core.Path.{◌≡◌, refl, sym, ap, ◌∙◌}
use mathlib.Core.List.{List, [], ◌∷◌}
use Prim.Native.Nat.{ℕ, zero, suc, ◌*◌, ◌%◌, ◌≤◌}
use native.Mathlib.Numerals.{add-one}
use native.Mathlib.Omega.{arith}
use lib.ListN.{length, get_or, take, drop}
use lib.Ieee.{Float}
use Rattle.binary32.specs.Leaves.{zero32}
use Rattle.common_types.specs.declared.Params.{Params}
use Rattle.sampler.specs.declared.Sampler.{Sampler}
use Rattle.sampler.specs.Samplers.{channel_stepped_of, output_of, Framed, framed, entry_of, entries_of}
use Rattle.lent_sampler.specs.Runs.{run_seat}
use Rattle.lent_sampler.proofs.RunTurns.{turn_of}
use Rattle.plain_sampler.specs.declared.Backing.{Backing}
use Rattle.plain_sampler.specs.Backings.{side_stepped, entries_backing, frames_backing}

module _ (p : Params) where
  -- entry i, of channel j
  abbrev pub side_turn : ℕ → ℕ → Framed → Backing → Backing
  side_turn j i f k = side_stepped f.sampler j p (get_or f.frame i zero32) f.memory k

  -- n entries from i on, each of the channel that `seat` says
  unfoldable pub side_turns : (ℕ → ℕ) → ℕ → ℕ → Framed → Backing → Backing
  side_turns seat zero i f k = k
  side_turns seat (suc n) i f k = side_turns seat n (suc i) (turn_of p (seat i) i f) (side_turn (seat i) i f k)

  pub frame_turns : (n j : ℕ) (f : Framed) (k : Backing) → side_turns (λ i. i) n j f k ≡ entries_backing p n j f k
  unfolding side_turns entries_backing entry_of
  frame_turns zero j f k = refl
  frame_turns (suc n) j f k =
      frame_turns n (suc j) (entry_of p j f) (side_turn j j f k)
      ∙ ap (λ (i : ℕ). entries_backing p n i (entry_of p j f) (side_turn j j f k)) (sym (add-one j))

  -- an entry in front that is done
  shifted : (seat : ℕ → ℕ) (n i : ℕ) (s : Sampler) (x : Float) (l : List Float) (m : List ℕ) (k : Backing) → side_turns seat n (suc i) (framed s (x ∷ l) m) k ≡ side_turns (λ j. seat (suc j)) n i (framed s l m) k
  unfolding side_turns
  shifted seat zero i s x l m k = refl
  shifted seat (suc n) i s x l m k =
      let f = turn_of p (seat (suc i)) i (framed s l m) in
      shifted seat n (suc i) f.sampler x f.frame f.memory (side_turn (seat (suc i)) i (framed s l m) k)

  same_seats : (seat other : ℕ → ℕ) (n i : ℕ) (f : Framed) (k : Backing) → ((j : ℕ) → seat j ≡ other j) → side_turns seat n i f k ≡ side_turns other n i f k
  same_seats seat other n i f k e = λ t. side_turns (λ j. e j t) n i f k

  -- c frames and one more, of a record that has n channels
  abbrev next : ℕ → ℕ → Framed → Backing → Backing
  next c n f k =
      let front = framed f.sampler (take n f.frame) f.memory in
      let g = entries_of p n 0 front in
      frames_backing p c (framed g.sampler (drop n f.frame) g.memory) (entries_backing p n 0 front k)

  is_next : (c n : ℕ) (f : Framed) (k : Backing) → f.sampler.count ≡ n → next c n f k ≡ frames_backing p (suc c) f k
  unfolding frames_backing
  is_next c n f k e = sym (ap (λ (d : ℕ). next c d f k) e)

  ones : (c : ℕ) (s : Sampler) (l : List Float) (m : List ℕ) (k : Backing) → s.count ≡ 1 → c ≤ length l → side_turns (λ i. 0) c 0 (framed s l m) k ≡ frames_backing p c (framed s l m) k
  unfolding side_turns frames_backing entries_backing entries_of entry_of channel_stepped_of
  ones zero s l m k e h = refl
  ones (suc c) s [] m k e h = absurd (omega (arith, h))
  ones (suc c) s (x ∷ l) m k e h =
      let f = turn_of p 0 0 (framed s (x ∷ []) m) in
      let k' = side_turn 0 0 (framed s (x ∷ []) m) k in
      shifted (λ i. 0) c 0 f.sampler (output_of s 0 p x m) l f.memory k'
      ∙ ones c f.sampler l f.memory k' e (omega (arith, h))
      ∙ is_next c 1 (framed s (x ∷ l) m) k e

  twos : (c : ℕ) (s : Sampler) (l : List Float) (m : List ℕ) (k : Backing) → s.count ≡ 2 → c * 2 ≤ length l → side_turns (λ i. i % 2) (c * 2) 0 (framed s l m) k ≡ frames_backing p c (framed s l m) k
  unfolding side_turns frames_backing entries_backing entries_of entry_of channel_stepped_of
  twos zero s l m k e h = refl
  twos (suc c) s [] m k e h = absurd (omega (arith, h))
  twos (suc c) s (x ∷ []) m k e h = absurd (omega (arith, h))
  twos (suc c) s (x ∷ y ∷ l) m k e h =
      let f = turn_of p 0 0 (framed s (x ∷ []) m) in
      let k' = side_turn 0 0 (framed s (x ∷ []) m) k in
      let a = output_of s 0 p x m in
      let g = turn_of p 1 0 (framed f.sampler (y ∷ []) f.memory) in
      let k'' = side_turn 1 0 (framed f.sampler (y ∷ []) f.memory) k' in
      let b = output_of f.sampler 1 p y f.memory in
      let n : suc c * 2 ≡ suc (suc (c * 2)) = omega arith in
      let again : (j : ℕ) → suc (suc j) % 2 ≡ j % 2 = λ j. omega arith in
      ap (λ (d : ℕ). side_turns (λ i. i % 2) d 0 (framed s (x ∷ y ∷ l) m) k) n
      ∙ shifted (λ i. i % 2) (c * 2) 1 g.sampler a (b ∷ l) g.memory k''
      ∙ shifted (λ i. suc i % 2) (c * 2) 0 g.sampler b l g.memory k''
      ∙ same_seats (λ i. suc (suc i) % 2) (λ i. i % 2) (c * 2) 0 (framed g.sampler l g.memory) k'' again
      ∙ twos c g.sampler l g.memory k'' e (omega (arith, h))
      ∙ is_next c 2 (framed s (x ∷ y ∷ l) m) k e

  pub run_turns : (count c : ℕ) (s : Sampler) (l : List Float) (m : List ℕ) (k : Backing) → s.count ≡ count → 1 ≤ count → count ≤ 2 → c * count ≤ length l
      → side_turns (λ i. run_seat i count) (c * count) 0 (framed s l m) k ≡ frames_backing p c (framed s l m) k
  unfolding run_seat
  run_turns zero c s l m k e some few h = absurd (omega (arith, some))
  run_turns (suc zero) c s l m k e some few h =
      let n : c * 1 ≡ c = omega arith in
      ap (λ (j : ℕ). side_turns (λ i. 0) j 0 (framed s l m) k) n ∙ ones c s l m k e (omega (arith, h))
  run_turns (suc (suc zero)) c s l m k e some few h = twos c s l m k e h
  run_turns (suc (suc (suc count))) c s l m k e some few h = absurd (omega (arith, few))
