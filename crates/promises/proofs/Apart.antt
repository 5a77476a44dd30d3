-- Channels don't meet: a sample of one changes neither another channel nor that channel's part of the memory. Assumes nothing.
use mathlib.Core.Path.{◌≡◌, refl, sym, ap, ◌∙◌, subst}
use mathlib.Core.Bool.{Bool, true, false, cond}
use mathlib.Core.Logic.{◌≢◌, ⊎_elim}
use mathlib.Core.List.{List}
use Prim.Native.Nat.{ℕ, zero, suc, ◌+◌, ◌*◌, ◌≤◌, ◌<◌}
use native.Mathlib.Nat.{le_trans, le_of_eq, mul-le-mul_right, suc-mul, zero-add, eq-or-lt_of_le, le_refl}
use native.Mathlib.Omega.{arith}
use borrow.Author.Tests.{ltb-true, ltb-false, eqb-true, eqb-false}
use lib.Dec.{ltb, eqb}
use lib.ListN.{length, get_or, length-set}
use lib.Seq.{get_or-set_same, get_or-set_other}
use lib.Ieee.{Float, binary32, mul}
use Rattle.common_types.specs.declared.Params.{Params}
use Rattle.binary32.specs.Leaves.{zero32}
use Rattle.channel.specs.declared.Channel.{Channel}
use Rattle.channel.specs.declared.Played.{Played}
use Rattle.channel.specs.Channels.{memory_of}
use Rattle.channel.specs.Channels.{process_sample_of as channel_sample_of}
use Rattle.channel.proofs.Samples.{memory_kept}
use Rattle.sampler.specs.declared.Sampler.{Sampler}
use Rattle.sampler.specs.Refusals.{channel_at}
use Rattle.sampler.specs.Samplers.{Steps, framed, part_of, played_at, channel_stepped_of, output_of, memory_at, Framed, entry_of, entries_of, moved_at, entries_moved}
use Rattle.sampler.proofs.Replaced.{replaced_apart, replaced_own}
use Rattle.sampler.proofs.Entries.{part_length, memory_at_length}
use Rattle.promises.specs.Tidies.{sum_from}

-- ---- a sample of channel i
module _ (s : Sampler) (i : ℕ) (m : List ℕ) (h : i * s.capacity + s.capacity ≤ length m) where
  module _ (x : Float) where
    written : List ℕ
    written = memory_of x (channel_at s i) (part_of s i m)

    written_length : length written ≡ s.capacity
    unfolding written
    written_length = memory_kept x (channel_at s i) (part_of s i m) ∙ part_length s i m h

    pub part_apart : (j : ℕ) → j ≢ i → part_of s j (memory_at s i x m) ≡ part_of s j m
    unfolding memory_at written
    part_apart j e = replaced_apart s i m written h written_length j e

    pub part_own : part_of s i (memory_at s i x m) ≡ memory_of x (channel_at s i) (part_of s i m)
    unfolding memory_at written
    part_own = replaced_own s i m written h written_length

module _ (s : Sampler) (i : ℕ) (p : Params) (x : Float) (m : List ℕ) where
  pub channel_apart : (j : ℕ) → j ≢ i → channel_at (channel_stepped_of s i p x m) j ≡ channel_at s j
  unfolding channel_stepped_of
  channel_apart j e = get_or-set_other s.channels i j (played_at s i p x m).channel _ e

  pub channel_own : i < length s.channels → channel_at (channel_stepped_of s i p x m) i ≡ (channel_sample_of p x (channel_at s i) (part_of s i m)).channel
  unfolding channel_stepped_of played_at
  channel_own h = get_or-set_same s.channels i (played_at s i p x m).channel _ h

  pub stepped_length : length (channel_stepped_of s i p x m).channels ≡ length s.channels
  unfolding channel_stepped_of
  stepped_length = length-set s.channels i (played_at s i p x m).channel

-- ---- a frame

-- channel i's part lies in the memory
abbrev Held : ℕ → Framed → Type 0
Held i f = i * f.sampler.capacity + f.sampler.capacity ≤ length f.memory

-- what channel j's entry reads
record Reads : Type 0 where
  input : Float
  channel : Channel
  part : List ℕ

abbrev read_in : Framed → ℕ → Reads
read_in f j = record { input = get_or f.frame j zero32; channel = channel_at f.sampler j; part = part_of f.sampler j f.memory }

abbrev played_by : Params → Reads → Played
played_by p r = channel_sample_of p r.input r.channel r.part

-- the entry of another channel leaves it was
entry_apart : (p : Params) (i : ℕ) (f : Framed) (j : ℕ) → j ≢ i → Held i f → read_in (entry_of p i f) j ≡ read_in f j
unfolding entry_of channel_stepped_of part_of
entry_apart p i f j q held =
    let s : Sampler = f.sampler in
    let x : Float = get_or f.frame i zero32 in
    λ t. record {
      input = get_or-set_other f.frame i j (output_of s i p x f.memory) zero32 q t;
      channel = channel_apart s i p x f.memory j q t;
      part = part_apart s i f.memory held x j q t;
    }

-- n entries from i on, whose parts lie in the memory
abbrev Room : ℕ → ℕ → Framed → Type 0
Room n i f = (i + n) * f.sampler.capacity ≤ length f.memory

room_here : (n i : ℕ) (f : Framed) → Room (suc n) i f → Held i f
room_here n i f h = le_trans (le_of_eq (sym (suc-mul i f.sampler.capacity))) (le_trans (mul-le-mul_right f.sampler.capacity ahead) h)
  where
    ahead : suc i ≤ i + suc n
    ahead = omega arith

room_on : (p : Params) (n i : ℕ) (f : Framed) → Room (suc n) i f → Room n (i + 1) (entry_of p i f)
unfolding entry_of channel_stepped_of
room_on p n i f h =
    let s : Sampler = f.sampler in
    le_trans (le_of_eq (ap (λ (z : ℕ). z * s.capacity) shift)) (le_trans h (le_of_eq (sym (memory_at_length s i f.memory (room_here n i f h) (get_or f.frame i zero32)))))
  where
    shift : i + 1 + n ≡ i + suc n
    shift = omega arith

-- what the entries move up is the sum of what each would, made alone on what the frame found
moved_apart : (p : Params) (g : ℕ → ℕ) (n i : ℕ) (f : Framed) → Room n i f → ((j : ℕ) → i ≤ j → (played_by p (read_in f j)).moved ≡ g j) → entries_moved p n i f ≡ sum_from g n i
unfolding entries_moved sum_from moved_at played_at
moved_apart p g zero i f r h = refl
moved_apart p g (suc n) i f r h =
    λ t. h i (le_refl i) t
    + moved_apart p g n (i + 1) (entry_of p i f) (room_on p n i f r)
    (λ j k. ap (λ (q : Reads). (played_by p q).moved) (entry_apart p i f j (λ e. omega arith) (room_here n i f r)) ∙ h j (omega arith)) t

-- What only channel j's own entry changes (`look`) is, after the frame, what that entry makes of what it reads (`goal`); past the last entry it is as it was. `Fits` is what the entry asks beside its part and its place in the frame.
module _ {X : Type 0} (p : Params) (j : ℕ) (look : Framed → X) (other : (i : ℕ) (f : Framed) → j ≢ i → Held i f → look (entry_of p i f) ≡ look f) where
  entries_before : (n i : ℕ) (f : Framed) → Room n i f → j < i → look (entries_of p n i f) ≡ look f
  unfolding entries_of
  entries_before zero i f r h = refl
  entries_before (suc n) i f r h = entries_before n (i + 1) (entry_of p i f) (room_on p n i f r) (omega arith) ∙ other i f (λ e. omega arith) (room_here n i f r)

  entries_past : (n i : ℕ) (f : Framed) → Room n i f → i + n ≤ j → look (entries_of p n i f) ≡ look f
  unfolding entries_of
  entries_past zero i f r h = refl
  entries_past (suc n) i f r h = entries_past n (i + 1) (entry_of p i f) (room_on p n i f r) (omega arith) ∙ other i f (λ e. omega arith) (room_here n i f r)

  module _ (Fits : Framed → Type 0) (fits_on : (i : ℕ) (f : Framed) → Fits f → Fits (entry_of p i f)) (goal : Reads → X)
      (own : (f : Framed) → Fits f → Held j f → j < length f.frame → look (entry_of p j f) ≡ goal (read_in f j)) where
    entries_own : (n i : ℕ) (f : Framed) → Room n i f → Fits f → i ≤ j → j < i + n → j < length f.frame → look (entries_of p n i f) ≡ goal (read_in f j)
    unfolding entries_of entry_of
    entries_own zero i f r h a b c = absurd (omega arith)
    entries_own (suc n) i f r h a b c = go (eqb i j) refl (entries_own n (i + 1) (entry_of p i f) (room_on p n i f r) (fits_on i f h))
      where
        go : (z : Bool) → eqb i j ≡ z
            → (i + 1 ≤ j → j < i + 1 + n → j < length (entry_of p i f).frame → look (entries_of p n (i + 1) (entry_of p i f)) ≡ goal (read_in (entry_of p i f) j))
            → look (entries_of p n (i + 1) (entry_of p i f)) ≡ goal (read_in f j)
        go true e later =
            let q : i ≡ j = eqb-true i j e in
            entries_before n (i + 1) (entry_of p i f) (room_on p n i f r) (omega arith)
            ∙ subst (λ (y : ℕ). look (entry_of p y f) ≡ goal (read_in f j)) (sym q) (own f h (subst (λ (y : ℕ). Held y f) q (room_here n i f r)) c)
        go false e later =
            let q : j ≢ i = λ u. eqb-false i j e (sym u) in
            let o : i < j = ⊎_elim (λ u. absurd (q (sym u))) (λ u. u) (eq-or-lt_of_le a) in
            later (omega arith) (omega arith) (omega (arith, length-set f.frame i (output_of f.sampler i p (get_or f.frame i zero32) f.memory)))
            ∙ ap goal (entry_apart p i f j q (room_here n i f r))

    entries_frame : (f : Framed) → Fits f → Steps f.sampler (length f.frame) (length f.memory)
        → look (entries_of p (length f.frame) 0 f) ≡ cond (ltb j (length f.frame)) (goal (read_in f j)) (look f)
    entries_frame f h k = go (ltb j (length f.frame)) refl
      where
        room : Room (length f.frame) 0 f
        room = le_trans (le_of_eq (ap (λ (z : ℕ). z * f.sampler.capacity) (zero-add (length f.frame)))) k.parts

        go : (b : Bool) → ltb j (length f.frame) ≡ b → look (entries_of p (length f.frame) 0 f) ≡ cond b (goal (read_in f j)) (look f)
        go true e =
            let o : j < length f.frame = ltb-true j (length f.frame) e in
            entries_own (length f.frame) 0 f room h (omega arith) (omega arith) o
        go false e = entries_past (length f.frame) 0 f room (omega (arith, ltb-false j (length f.frame) e))

-- the channel, the output and the part of the memory that a frame leaves
module _ (s : Sampler) (xs : List Float) (p : Params) (m : List ℕ) (h : Steps s (length xs) (length m)) (j : ℕ) where
  abbrev reads : Reads
  reads = read_in (framed s xs m) j

  pub frame_channel : j < length s.channels → channel_at (entries_of p (length xs) 0 (framed s xs m)).sampler j ≡ cond (ltb j (length xs)) (played_by p reads).channel (channel_at s j)
  unfolding entry_of
  frame_channel k =
      entries_frame p j (λ (f : Framed). channel_at f.sampler j) (λ i f q r. channel_apart f.sampler i p (get_or f.frame i zero32) f.memory j q)
      (λ (f : Framed). j < length f.sampler.channels) (λ i f k. omega (arith, stepped_length f.sampler i p (get_or f.frame i zero32) f.memory))
      (λ (r : Reads). (played_by p r).channel) (λ f k a b. channel_own f.sampler j p (get_or f.frame j zero32) f.memory k) (framed s xs m) k h

  pub frame_output : get_or (entries_of p (length xs) 0 (framed s xs m)).frame j zero32 ≡ cond (ltb j (length xs)) (mul binary32 p.volume (played_by p reads).output) (get_or xs j zero32)
  unfolding entry_of output_of played_at
  frame_output =
      entries_frame p j (λ (f : Framed). get_or f.frame j zero32) (λ i f q r. get_or-set_other f.frame i j _ zero32 q) (λ (f : Framed). Unit {0}) (λ i f u. tt)
      (λ (r : Reads). mul binary32 p.volume (played_by p r).output) (λ f u a b. get_or-set_same f.frame j _ zero32 b) (framed s xs m) tt h

  pub frame_part : part_of (entries_of p (length xs) 0 (framed s xs m)).sampler j (entries_of p (length xs) 0 (framed s xs m)).memory
      ≡ cond (ltb j (length xs)) (memory_of (get_or xs j zero32) (channel_at s j) (part_of s j m)) (part_of s j m)
  unfolding entry_of channel_stepped_of part_of
  frame_part =
      entries_frame p j (λ (f : Framed). part_of f.sampler j f.memory) (λ i f q r. part_apart f.sampler i f.memory r (get_or f.frame i zero32) j q) (λ (f : Framed). Unit {0}) (λ i f u. tt)
      (λ (r : Reads). memory_of r.input r.channel r.part) (λ f u a b. part_own f.sampler j f.memory a (get_or f.frame j zero32)) (framed s xs m) tt h

pub frame_moved_lem : (s : Sampler) (xs : List Float) (p : Params) (m : List ℕ) → Steps s (length xs) (length m)
    → entries_moved p (length xs) 0 (framed s xs m) ≡ sum_from (λ (j : ℕ). (channel_sample_of p (get_or xs j zero32) (channel_at s j) (part_of s j m)).moved) (length xs) 0
frame_moved_lem s xs p m h =
    moved_apart p _ (length xs) 0 (framed s xs m) (le_trans (le_of_eq (ap (λ (z : ℕ). z * s.capacity) (zero-add (length xs)))) h.parts) (λ j k. refl)
