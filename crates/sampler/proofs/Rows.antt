-- What a number of 0 says: the record is good, and what a step asks holds. Assumes nothing.
use mathlib.Core.Path.{◌≡◌, refl, sym, ap, ◌∙◌}
use mathlib.Core.Bool.{Bool, true, false, not, ◌&&◌, ◌||◌, true≢false}
use Prim.Native.Nat.{ℕ, suc, ◌*◌, ◌/◌, ◌^◌, ◌≤◌, ◌<◌}
use native.Mathlib.Nat.{le_trans, le_of_eq, mul_comm, mul-le-mul_right, suc-mul, le-div_iff_mul-le}
use native.Mathlib.Omega.{arith}
use borrow.Author.Tests.{leb-true, ltb-true, ltb-false, eqb-true}
use lib.Dec.{leb, ltb, eqb, leb→le, le→leb}
use lib.ListN.{length}
use Rattle.std.specs.Prelude.{Result, Ok, is_ok}
use Rattle.binary32.proofs.Truth.{same_test}
use Rattle.refusals.specs.declared.Refusal.{Refusal}
use Rattle.refusals.specs.declared.Refusal.TheVariants.{NoChannel, Broken, PhraseRecording}
use Rattle.refusals.proofs.Codes.{passed}
use Rattle.common_types.specs.declared.Params.{Params}
use Rattle.walks.proofs.Lists.Every.{both}
use Rattle.channel.specs.Channels.{live}
use Rattle.sampler.specs.Refusals.{channel_at, good_sizes, good_sampler, good_with, any_recording, gather_judged, gather_number, sample_judged, sample_number, frame_asked_of, frame_rows, frame_judged, frame_number}
use Rattle.sampler.specs.Samplers.{Ready, Steps}
use Rattle.sampler.specs.declared.Sampler.{Sampler}
use Rattle.sampler.specs.declared.FrameAsked.{FrameAsked}
use Rattle.sampler.proofs.Channels.{few_live}

pub is_true : (b : Bool) → not b ≡ false → b ≡ true
is_true true h = refl
is_true false h = absurd (true≢false h)

-- ---- good sizes
one_or_two : (n : ℕ) (a b : Bool) → eqb n 1 ≡ a → eqb n 2 ≡ b → (a || b) ≡ true → (1 ≤ n) × (n ≤ 2)
one_or_two n true b e f h = let k : n ≡ 1 = eqb-true n 1 e in (omega arith, omega arith)
one_or_two n false true e f h = let k : n ≡ 2 = eqb-true n 2 f in (omega arith, omega arith)
one_or_two n false false e f h = absurd (true≢false (sym h))

counts : (n capacity : ℕ) → good_sizes n capacity ≡ true → (1 ≤ n) × (n ≤ 2)
unfolding good_sizes
counts n capacity h =
    one_or_two n (eqb n 1) (eqb n 2) refl refl (both (eqb n 1 || eqb n 2) (leb 1 capacity) (both ((eqb n 1 || eqb n 2) && leb 1 capacity) (leb capacity 4194304) h).0).0

most_samples : (n capacity : ℕ) → good_sizes n capacity ≡ true → capacity ≤ 2 ^ 22
unfolding good_sizes
most_samples n capacity h = leb-true capacity 4194304 (both ((eqb n 1 || eqb n 2) && leb 1 capacity) (leb capacity 4194304) h).1

pub sizes_count : (n capacity : ℕ) → good_sizes n capacity ≡ true → n ≤ 2
sizes_count n capacity h = (counts n capacity h).1

pub good_sizes_lem : (s : Sampler) → good_sampler s ≡ true → good_sizes s.count s.capacity ≡ true
unfolding good_sampler
good_sizes_lem s h = (both (good_sizes s.count s.capacity) _ h).0

pub record Fitting (s : Sampler) (size : ℕ) : Type 0 where
  pub good : good_sampler s ≡ true
  pub some : 1 ≤ s.count
  pub few : s.count ≤ 2
  pub small : s.capacity ≤ 2 ^ 22
  pub fits : s.count * s.capacity ≤ size

pub fitting : (s : Sampler) (size : ℕ) → good_with s size ≡ true → Fitting s size
unfolding good_with
fitting s size h =
    let g = both (good_sampler s) (leb (s.count * s.capacity) size) h in
    let n = counts s.count s.capacity (good_sizes_lem s g.0) in
    record {
      good = g.0;
      some = n.0;
      few = n.1;
      small = most_samples s.count s.capacity (good_sizes_lem s g.0);
      fits = leb-true _ _ g.1;
    }

-- ---- the steps
pub sample_ready : (s : Sampler) (j : ℕ) (p : Params) (size : ℕ) → sample_number s j p size ≡ 0 → Ready s j size
unfolding sample_judged
sample_ready s j p size h =
    let g = passed (not (good_with s size)) Broken _ h in
    let k = passed (not (ltb j s.count)) NoChannel _ g.1 in
    let f = fitting s size (is_true (good_with s size) g.0) in
    let b : j < s.count = ltb-true j s.count (is_true (ltb j s.count) k.0) in
    record {
      below = omega (arith, f.few);
      part = le_trans (le_of_eq (sym (suc-mul j s.capacity))) (le_trans (mul-le-mul_right s.capacity b) f.fits);
    }

pub frame_steps : (s : Sampler) (n : ℕ) (p : Params) (size : ℕ) → frame_number s n p size ≡ 0 → Steps s n size
unfolding frame_judged
frame_steps s n p size h =
    let g = passed (not (good_with s size)) Broken _ h in
    let k = passed (ltb s.count n) NoChannel _ g.1 in
    let f = fitting s size (is_true (good_with s size) g.0) in
    let b : n ≤ s.count = ltb-false s.count n k.0 in
    record {
      below = le_trans b f.few;
      parts = le_trans (mul-le-mul_right s.capacity b) f.fits;
    }

-- ---- a gather
pub gather_says : (s : Sampler) (size : ℕ) → gather_number s size ≡ 0 → (good_with s size ≡ true) × (any_recording s ≡ false)
unfolding gather_judged
gather_says s size h =
    let g = passed (not (good_with s size)) Broken _ h in
    (is_true (good_with s size) g.0, (passed (any_recording s) PhraseRecording (Ok tt) g.1).0)

pub gather_steps : (s : Sampler) (size : ℕ) → gather_number s size ≡ 0 → Steps s s.count size
gather_steps s size h = let f = fitting s size (gather_says s size h).0 in record { below = f.few; parts = f.fits }

-- what is asked of the record tells how the frame is judged
pub frame_asked : (s : Sampler) (n : ℕ) (p : Params) (size : ℕ) (done : Result (Unit {0}) Refusal) (a : FrameAsked) → done ≡ frame_rows a n p → a ≡ frame_asked_of s n size
    → done ≡ frame_judged s n p size
unfolding frame_judged
frame_asked s n p size done a e f = e ∙ ap (λ (b : FrameAsked). frame_rows b n p) f

-- a channel that a frame steps has at most 32 voices
pub frame_few : (s : Sampler) (n : ℕ) (p : Params) (size : ℕ) → frame_number s n p size ≡ 0 → (j : ℕ) → j < n → length (live (channel_at s j)) ≤ 32
unfolding frame_judged good_with
frame_few s n p size h j k =
    let g = passed (not (good_with s size)) Broken _ h in
    let b : n ≤ s.count = ltb-false s.count n (passed (ltb s.count n) NoChannel _ g.1).0 in
    few_live s j (both (good_sampler s) (leb (s.count * s.capacity) size) (is_true (good_with s size) g.0)).0 (omega (arith, b))

-- a product is at most a number exactly where a factor is at most its quotient by the other
pub quotient_test : (n c size : ℕ) → (n ≡ 0 → ⊥) → leb c (size / n) ≡ leb (n * c) size
quotient_test n c size h =
    let d : 0 < n = omega arith in
    let e : c * n ≡ n * c = mul_comm c n in
    same_test (leb c (size / n)) (leb (n * c) size)
    (λ t. le→leb (n * c) size (le_trans (le_of_eq (sym e)) ((le-div_iff_mul-le d).0 (leb→le c (size / n) t))))
    (λ t. le→leb c (size / n) ((le-div_iff_mul-le d).1 (le_trans (le_of_eq e) (leb→le (n * c) size t))))
