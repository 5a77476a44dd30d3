-- A good recorder's write place doesn't exceed the length of the data, nor that the capacity, and each call leaves it good.
-- Assumes nothing.
use mathlib.Core.Path.{◌≡◌, refl, sym, ◌∙◌}
use mathlib.Core.Bool.{true, false, and-eq-true_iff}
use Prim.Native.Nat.{ℕ, ◌+◌, max, min, ◌≤◌}
use native.Mathlib.Omega.{arith}
use lib.Dec.{leb}
use borrow.Author.Tests.{le-leb, leb-true}
use Rattle.recorder.specs.declared.State.TheVariants.{Triggered, Idle}
use Rattle.recorder.specs.declared.Recorder.{Recorder}
use Rattle.recorder.specs.Recording.{new_recorder_of, in_state, misused_of, skipped_of, start_of, stop_of, recorded_of, is_recording_of, good_recorder, good_recorded}
use Rattle.recorder.proofs.Cases.{by_state, not_recording, by_room, start_idle, stop_idle, sample_idle, good_idle, start_again, stop_cuts, sample_next, sample_dropped, good_recording}

idle_good : (r : Recorder) (len capacity : ℕ) → r.state ≡ Idle → len ≤ capacity → good_recorder r len capacity ≡ true
idle_good r len capacity idle h = good_idle r idle len capacity ∙ le-leb len capacity h

recording_good : (r : Recorder) (w len capacity : ℕ) → r.state ≡ Triggered w → w ≤ len → len ≤ capacity → good_recorder r len capacity ≡ true
recording_good r w len capacity recording l h = rw (good_recording r w recording len capacity, le-leb w len l, le-leb len capacity h)

-- the counts don't matter
misused_good : (r : Recorder) (len capacity : ℕ) → good_recorder (misused_of r) len capacity ≡ good_recorder r len capacity
unfolding good_recorder misused_of
misused_good r len capacity = refl

skipped_good : (r : Recorder) (len capacity : ℕ) → good_recorder (skipped_of r) len capacity ≡ good_recorder r len capacity
unfolding good_recorder skipped_of
skipped_good r len capacity = refl

-- while nothing is recorded, any length that the capacity has room for
pub unrecorded_good : (r : Recorder) (len capacity : ℕ) → is_recording_of r ≡ false → len ≤ capacity → good_recorder r len capacity ≡ true
unrecorded_good r len capacity unrecorded h = idle_good r len capacity (not_recording r unrecorded) h

pub new_good : (capacity : ℕ) → good_recorder new_recorder_of 0 capacity ≡ true
new_good capacity = idle_good new_recorder_of 0 capacity refl (omega arith)

module _ (r : Recorder) (len capacity : ℕ) (good : good_recorder r len capacity ≡ true) where
  -- what good says
  pub good_write : (w : ℕ) → r.state ≡ Triggered w → w ≤ len
  good_write w recording = leb-true w len ((and-eq-true_iff (leb w len) (leb len capacity)).0 (sym (good_recording r w recording len capacity) ∙ good)).0

  pub good_length : len ≤ capacity
  good_length = by_state r
      (λ idle. leb-true len capacity (sym (good_idle r idle len capacity) ∙ good))
      (λ w recording. leb-true len capacity ((and-eq-true_iff (leb w len) (leb len capacity)).0 (sym (good_recording r w recording len capacity) ∙ good)).1)

  -- and with any other capacity that has room for the data
  pub good_within : (room : ℕ) → len ≤ room → good_recorder r len room ≡ true
  good_within room h = by_state r
      (λ idle. idle_good r len room idle h)
      (λ w recording. recording_good r w len room recording (good_write w recording) h)

  -- each call leaves it good
  pub start_good : good_recorder (start_of r) len capacity ≡ true
  unfolding in_state
  start_good = by_state r
      (λ idle. rw (start_idle r idle) (recording_good (in_state (Triggered 0) r) 0 len capacity refl (omega arith) good_length))
      (λ w recording. rw (start_again r w recording) (misused_good r len capacity ∙ good))

  pub stop_good : good_recorded (stop_of r len) capacity ≡ true
  unfolding in_state
  stop_good = by_state r
      (λ idle. rw (stop_idle r idle len) (misused_good r len capacity ∙ good))
      (λ w recording. let l = good_length in rw (stop_cuts r w recording len) (idle_good (in_state Idle r) (min len w) capacity refl (omega arith)))

  pub sample_good : good_recorded (recorded_of r len capacity) capacity ≡ true
  unfolding in_state
  sample_good = by_room r capacity
      (λ idle. rw (sample_idle r idle len capacity) good)
      (λ w recording below.
      let l = good_length in
      rw (sample_next r w recording len capacity below)
      (recording_good (in_state (Triggered (w + 1)) r) (w + 1) (max len (w + 1)) capacity refl (omega arith) (omega arith)))
      (λ w recording full. rw (sample_dropped r w recording len capacity full) (skipped_good r len capacity ∙ good))
