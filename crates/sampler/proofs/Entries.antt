-- A sample and a frame keep the memory's length, and what each entry of a frame keeps, the frame keeps. Assumes nothing.
use mathlib.Core.Path.{◌≡◌, refl, sym, ◌∙◌, subst}
use mathlib.Core.Bool.{not}
use mathlib.Core.List.{List}
use Prim.Native.Nat.{ℕ, zero, suc, ◌+◌, ◌*◌, ◌≤◌, ◌<◌}
use native.Mathlib.Nat.{le_trans, le_of_eq, mul-le-mul_right, suc-mul, zero-add}
use native.Mathlib.Omega.{arith}
use borrow.Author.Tests.{ltb-true, ltb-false}
use Rattle.std.specs.Prelude.{is_ok}
use lib.Dec.{T, ltb}
use lib.ListN.{length, take, drop, get_or, length-set, length-take, length-drop}
use lib.Ieee.{Float}
use Rattle.binary32.proofs.Truth.{no, cond_split}
use Rattle.binary32.specs.Leaves.{zero32}
use Rattle.refusals.specs.declared.Refusal.TheVariants.{NoChannel, BeyondLimits, Broken}
use Rattle.refusals.proofs.Codes.{passed, zero_when}
use Rattle.common_types.specs.declared.Params.{Params}
use Rattle.common_types.specs.Settings.{beyond_limits}
use Rattle.channel.specs.Channels.{memory_of}
use Rattle.channel.proofs.Samples.{memory_kept}
use Rattle.sampler.specs.Refusals.{channel_at, good_with, no_channel, sample_judged, sample_number, frame_judged, frame_number}
use Rattle.sampler.specs.Samplers.{part_of, played_at, channel_stepped_of, memory_at, sample_memory, Framed, framed, entry_of, entries_of, framed_of}
use Rattle.sampler.specs.declared.Sampler.{Sampler}
use Rattle.sampler.proofs.Rows.{is_true, sample_ready, frame_steps}
use Rattle.sampler.proofs.Replaced.{replaced_length}

-- ---- what no call changes
pub record Kept (s r : Sampler) : Type 0 where
  pub channels : length r.channels ≡ length s.channels
  pub count : r.count ≡ s.count
  pub capacity : r.capacity ≡ s.capacity

pub kept_refl : (s : Sampler) → Kept s s
kept_refl s = record { channels = refl; count = refl; capacity = refl }

pub kept_trans : (s r q : Sampler) → Kept s r → Kept r q → Kept s q
kept_trans s r q h k = record { channels = k.channels ∙ h.channels; count = k.count ∙ h.count; capacity = k.capacity ∙ h.capacity }

pub kept_step : (s : Sampler) (j : ℕ) (p : Params) (x : Float) (m : List ℕ) → Kept s (channel_stepped_of s j p x m)
unfolding channel_stepped_of
kept_step s j p x m = record { channels = length-set s.channels j (played_at s j p x m).channel; count = refl; capacity = refl }

pub kept_entries : (p : Params) (n j : ℕ) (f : Framed) → Kept f.sampler (entries_of p n j f).sampler
unfolding entries_of entry_of
kept_entries p zero j f = kept_refl f.sampler
kept_entries p (suc n) j f =
    kept_trans f.sampler (entry_of p j f).sampler _ (kept_step f.sampler j p (get_or f.frame j zero32) f.memory) (kept_entries p n (j + 1) (entry_of p j f))

-- channel j is present, and its part lies within memory of that size
pub record Reaches (s : Sampler) (j size : ℕ) : Type 0 where
  pub below : j < s.count
  pub part : j * s.capacity + s.capacity ≤ size

-- ---- what the number 0 says
module _ (s : Sampler) (p : Params) (size : ℕ) where
  pub sample_reaches : (j : ℕ) → sample_number s j p size ≡ 0 → Reaches s j size × T (not (beyond_limits p))
  unfolding sample_judged
  sample_reaches j h =
      let a = passed (no_channel s j) NoChannel _ (passed (not (good_with s size)) Broken _ h).1 in
      (record { below = ltb-true j s.count (is_true (ltb j s.count) a.0); part = (sample_ready s j p size h).part }, no (passed (beyond_limits p) BeyondLimits _ a.1).0)

  pub frame_reaches : (n : ℕ) → frame_number s n p size ≡ 0 → (n ≤ s.count) × T (not (beyond_limits p))
  unfolding frame_judged
  frame_reaches n h =
      let a = passed (ltb s.count n) NoChannel _ (passed (not (good_with s size)) Broken _ h).1 in
      (ltb-false s.count n a.0, no (passed (beyond_limits p) BeyondLimits _ a.1).0)

-- ---- the memory's length

-- a part of that length
part_size : (a c : ℕ) (m : List ℕ) → a + c ≤ length m → length (take c (drop a m)) ≡ c
part_size a c m h = simp (length-take, length-drop) (omega arith)

module _ (s : Sampler) (j : ℕ) (m : List ℕ) (within : j * s.capacity + s.capacity ≤ length m) where
  pub part_length : length (part_of s j m) ≡ s.capacity
  unfolding part_of
  part_length = part_size (j * s.capacity) s.capacity m within

  pub memory_at_length : (x : Float) → length (memory_at s j x m) ≡ length m
  unfolding memory_at
  memory_at_length x =
      replaced_length s j m (memory_of x (channel_at s j) (part_of s j m)) within (memory_kept x (channel_at s j) (part_of s j m) ∙ part_length)

pub sample_memory_length : (s : Sampler) (j : ℕ) (x : Float) (p : Params) (m : List ℕ) → length (sample_memory s j x p m) ≡ length m
unfolding sample_memory
sample_memory_length s j x p m =
    let done = sample_judged s j p (length m) in
    cond_split (λ (l : List ℕ). length l ≡ length m) (is_ok done) (memory_at s j x m) m (λ t. memory_at_length s j m (sample_reaches s p (length m) j (zero_when done t)).0.part x) (λ t. refl)

-- ---- a frame
module _ (P : Framed → Type 0) (p : Params) (keeps : T (not (beyond_limits p)) → (j : ℕ) (f : Framed) → Reaches f.sampler j (length f.memory) → P f → P (entry_of p j f)) where
  pub entries_keep : T (not (beyond_limits p)) → (n j : ℕ) (f : Framed) → j + n ≤ f.sampler.count → (j + n) * f.sampler.capacity ≤ length f.memory → P f → P (entries_of p n j f)
  unfolding entries_of entry_of channel_stepped_of
  entries_keep k zero j f a b h = h
  entries_keep k (suc n) j f a b h =
      let s = f.sampler in
      let e : j + suc n ≡ j + 1 + n = omega arith in
      let r : Reaches s j (length f.memory) = record {
        below = le_trans (front j n) a;
        part = le_trans (le_of_eq (sym (suc-mul j s.capacity))) (le_trans (mul-le-mul_right s.capacity (front j n)) b);
      } in
      entries_keep k n (j + 1) (entry_of p j f) (subst (λ (i : ℕ). i ≤ s.count) e a)
      (le_trans (subst (λ (i : ℕ). i * s.capacity ≤ length f.memory) e b) (le_of_eq (sym (memory_at_length s j f.memory r.part (get_or f.frame j zero32))))) (keeps k j f r h)
    where
      front : (j n : ℕ) → suc j ≤ j + suc n
      front j n = omega arith

  pub frame_keeps : (s : Sampler) (frame : List Float) (m : List ℕ) → P (framed s frame m) → P (framed_of s frame p m)
  unfolding framed_of
  frame_keeps s frame m h =
      let n = length frame in
      let done = frame_judged s n p (length m) in
      cond_split P (is_ok done) (entries_of p n 0 (framed s frame m)) (framed s frame m)
      (λ t. let z = zero_when done t in
      let k = frame_reaches s p (length m) n z in
      let e : n ≡ 0 + n = sym (zero-add n) in
      entries_keep k.1 n 0 (framed s frame m) (subst (λ (i : ℕ). i ≤ s.count) e k.0)
      (subst (λ (i : ℕ). i * s.capacity ≤ length m) e (frame_steps s n p (length m) z).parts) h)
      (λ t. h)

pub frame_memory_length : (s : Sampler) (frame : List Float) (p : Params) (m : List ℕ) → length (framed_of s frame p m).memory ≡ length m
unfolding entry_of
frame_memory_length s frame p m =
    frame_keeps (λ (f : Framed). length f.memory ≡ length m) p (λ k j f r h. memory_at_length f.sampler j f.memory r.part (get_or f.frame j zero32) ∙ h) s frame m refl
