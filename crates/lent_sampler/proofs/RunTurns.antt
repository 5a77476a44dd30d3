-- A run of frames entry by entry: entry i is that of its channel, and what the entries of k frames give is what the frames give in turn. Assumes nothing.
use Rattle.std.proofs.Common.{◌≡◌, ℕ, zero, suc, ◌*◌, ◌%◌, ◌<◌, ◌≤◌, List, [], ◌∷◌, length, get_or, take, drop, set, sym, refl, ap, ◌∙◌, arith}
use lib.Ieee.{Float}
use Rattle.binary32.specs.Leaves.{zero32}
use Rattle.common_types.specs.declared.Params.{Params}
use Rattle.sampler.specs.declared.Sampler.{Sampler}
use Rattle.sampler.specs.Samplers.{channel_stepped_of, output_of, memory_at, Framed, framed, entry_of, entries_of, frames_of}
use Rattle.sampler.proofs.Running.{behind}
use Rattle.lent_sampler.specs.Runs.{run_seat}

module _ (p : Params) where
  -- entry i, of channel j
  abbrev pub turn_of : ℕ → ℕ → Framed → Framed
  turn_of j i f =
      let x = get_or f.frame i zero32 in
      framed (channel_stepped_of f.sampler j p x f.memory) (set f.frame i (output_of f.sampler j p x f.memory)) (memory_at f.sampler j x f.memory)

  -- n entries from i on, each of the channel that `seat` says
  unfoldable pub turns_of : (ℕ → ℕ) → ℕ → ℕ → Framed → Framed
  turns_of seat zero i f = f
  turns_of seat (suc n) i f = turns_of seat n (suc i) (turn_of (seat i) i f)

  -- an entry in front that is done
  shifted : (seat : ℕ → ℕ) (n i : ℕ) (s : Sampler) (x : Float) (l : List Float) (m : List ℕ)
      → turns_of seat n (suc i) (framed s (x ∷ l) m) ≡ behind (x ∷ []) (turns_of (λ j. seat (suc j)) n i (framed s l m))
  unfolding turns_of
  shifted seat zero i s x l m = refl
  shifted seat (suc n) i s x l m =
      let f = turn_of (seat (suc i)) i (framed s l m) in
      shifted seat n (suc i) f.sampler x f.frame f.memory

  same_seats : (seat other : ℕ → ℕ) (n i : ℕ) (f : Framed) → ((j : ℕ) → seat j ≡ other j) → turns_of seat n i f ≡ turns_of other n i f
  same_seats seat other n i f e = λ t. turns_of (λ j. e j t) n i f

  -- k frames and one more, of a record that has n channels
  abbrev next : ℕ → ℕ → Framed → Framed
  next k n f =
      let g = entries_of p n 0 (framed f.sampler (take n f.frame) f.memory) in
      behind g.frame (frames_of p k (framed g.sampler (drop n f.frame) g.memory))

  is_next : (k n : ℕ) (f : Framed) → f.sampler.count ≡ n → next k n f ≡ frames_of p (suc k) f
  unfolding frames_of
  is_next k n f e = sym (ap (λ (c : ℕ). next k c f) e)

  ones : (k : ℕ) (s : Sampler) (l : List Float) (m : List ℕ) → s.count ≡ 1 → k ≤ length l → turns_of (λ i. 0) k 0 (framed s l m) ≡ frames_of p k (framed s l m)
  unfolding turns_of frames_of entries_of entry_of channel_stepped_of
  ones zero s l m e h = refl
  ones (suc k) s [] m e h = absurd (omega (arith, h))
  ones (suc k) s (x ∷ l) m e h =
      let f = turn_of 0 0 (framed s (x ∷ []) m) in
      let y = output_of s 0 p x m in
      shifted (λ i. 0) k 0 f.sampler y l f.memory
      ∙ ap (behind (y ∷ [])) (ones k f.sampler l f.memory e (omega (arith, h)))
      ∙ is_next k 1 (framed s (x ∷ l) m) e

  twos : (k : ℕ) (s : Sampler) (l : List Float) (m : List ℕ) → s.count ≡ 2 → k * 2 ≤ length l → turns_of (λ i. i % 2) (k * 2) 0 (framed s l m) ≡ frames_of p k (framed s l m)
  unfolding turns_of frames_of entries_of entry_of channel_stepped_of
  twos zero s l m e h = refl
  twos (suc k) s [] m e h = absurd (omega (arith, h))
  twos (suc k) s (x ∷ []) m e h = absurd (omega (arith, h))
  twos (suc k) s (x ∷ y ∷ l) m e h =
      let f = turn_of 0 0 (framed s (x ∷ []) m) in
      let a = output_of s 0 p x m in
      let g = turn_of 1 0 (framed f.sampler (y ∷ []) f.memory) in
      let b = output_of f.sampler 1 p y f.memory in
      let n : suc k * 2 ≡ suc (suc (k * 2)) = omega arith in
      let again : (j : ℕ) → suc (suc j) % 2 ≡ j % 2 = λ j. omega arith in
      ap (λ (c : ℕ). turns_of (λ i. i % 2) c 0 (framed s (x ∷ y ∷ l) m)) n
      ∙ shifted (λ i. i % 2) (k * 2) 1 g.sampler a (b ∷ l) g.memory
      ∙ ap (behind (a ∷ [])) (shifted (λ i. suc i % 2) (k * 2) 0 g.sampler b l g.memory
      ∙ ap (behind (b ∷ [])) (same_seats (λ i. suc (suc i) % 2) (λ i. i % 2) (k * 2) 0 (framed g.sampler l g.memory) again
      ∙ twos k g.sampler l g.memory e (omega (arith, h))))
      ∙ is_next k 2 (framed s (x ∷ y ∷ l) m) e

  pub all_turns : (c k : ℕ) (s : Sampler) (l : List Float) (m : List ℕ) → s.count ≡ c → 1 ≤ c → c ≤ 2 → k * c ≤ length l → turns_of (λ i. run_seat i c) (k * c) 0 (framed s l m) ≡ frames_of p k (framed s l m)
  unfolding run_seat
  all_turns zero k s l m e some few h = absurd (omega (arith, some))
  all_turns (suc zero) k s l m e some few h =
      let n : k * 1 ≡ k = omega arith in
      ap (λ (j : ℕ). turns_of (λ i. 0) j 0 (framed s l m)) n ∙ ones k s l m e (omega (arith, h))
  all_turns (suc (suc zero)) k s l m e some few h = twos k s l m e h
  all_turns (suc (suc (suc c))) k s l m e some few h = absurd (omega (arith, few))

-- an entry's channel is one of those in use
pub seat_low : (i c : ℕ) → 1 ≤ c → c ≤ 2 → run_seat i c < c
unfolding run_seat
seat_low i zero some few = absurd (omega (arith, some))
seat_low i (suc zero) some few = omega arith
seat_low i (suc (suc zero)) some few = omega arith
seat_low i (suc (suc (suc c))) some few = absurd (omega (arith, few))
