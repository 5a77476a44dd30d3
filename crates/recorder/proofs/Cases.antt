-- What each call does in each state of the recorder. Assumes nothing.
use mathlib.Core.Path.{◌≡◌, refl, sym, ◌∙◌}
use mathlib.Core.Bool.{Bool, true, false, cond, ◌&&◌, true≢false}
use mathlib.Core.List.{List}
use Prim.Native.Nat.{ℕ, ◌+◌, max, min, ◌≤◌, ◌<◌}
use lib.Dec.{leb, ltb}
use lib.ListN.{length, set}
use lib.Seq.{set_out}
use borrow.Author.Tests.{lt-ltb, le-ltb, ltb-true, ltb-false}
use Rattle.recorder.specs.declared.State.{State}
use Rattle.recorder.specs.declared.State.TheVariants.{Triggered, Idle}
use Rattle.recorder.specs.declared.Recorder.{Recorder}
use Rattle.recorder.specs.Recording.{in_state, misused_of, skipped_of, start_of, stop_of, recorded_of, data_after, is_recording_of, good_recorder}

-- a recorder is idle or records at some place
pub by_state : (r : Recorder) {P : Type 0} → (r.state ≡ Idle → P) → ((w : ℕ) → r.state ≡ Triggered w → P) → P
by_state r {P} idle recording = go r.state refl
  where
    go : (s : State) → r.state ≡ s → P
    go Idle e = idle e
    go (Triggered w) e = recording w e

-- one that doesn't record is idle
pub not_recording : (r : Recorder) → is_recording_of r ≡ false → r.state ≡ Idle
unfolding is_recording_of
not_recording r e = by_state r (λ idle. idle) (λ w recording. absurd (true≢false (sym (records w recording) ∙ e)))
  where
    records : (w : ℕ) → r.state ≡ Triggered w → is_recording_of r ≡ true
    records w recording = simp (recording, is_recording_of)

-- a sample: idle, with room at the write place, or none there
pub by_room : (r : Recorder) (capacity : ℕ) {P : Type 0} → (r.state ≡ Idle → P) → ((w : ℕ) → r.state ≡ Triggered w → w < capacity → P)
    → ((w : ℕ) → r.state ≡ Triggered w → capacity ≤ w → P) → P
by_room r capacity {P} idle room full = by_state r idle (λ w recording. go w recording (ltb w capacity) refl)
  where
    go : (w : ℕ) → r.state ≡ Triggered w → (b : Bool) → ltb w capacity ≡ b → P
    go w recording true e = room w recording (ltb-true w capacity e)
    go w recording false e = full w recording (ltb-false w capacity e)

module _ (r : Recorder) (idle : r.state ≡ Idle) where
  pub start_idle : start_of r ≡ in_state (Triggered 0) r
  unfolding start_of
  start_idle = simp (idle, start_of)

  pub stop_idle : (len : ℕ) → stop_of r len ≡ record { recorder = misused_of r; data_len = len }
  unfolding stop_of
  stop_idle len = simp (idle, stop_of)

  pub sample_idle : (len capacity : ℕ) → recorded_of r len capacity ≡ record { recorder = r; data_len = len }
  unfolding recorded_of
  sample_idle len capacity = simp (idle, recorded_of)

  pub memory_idle : (x : ℕ) (mem : List ℕ) → data_after r x mem ≡ mem
  unfolding data_after
  memory_idle x mem = simp (idle, data_after)

  pub good_idle : (len capacity : ℕ) → good_recorder r len capacity ≡ leb len capacity
  unfolding good_recorder
  good_idle len capacity = simp (idle, good_recorder)

module _ (r : Recorder) (w : ℕ) (recording : r.state ≡ Triggered w) where
  pub start_again : start_of r ≡ misused_of r
  unfolding start_of
  start_again = simp (recording, start_of)

  pub stop_cuts : (len : ℕ) → stop_of r len ≡ record { recorder = in_state Idle r; data_len = min len w }
  unfolding stop_of
  stop_cuts len = simp (recording, stop_of)

  pub sample_next : (len capacity : ℕ) → w < capacity
      → recorded_of r len capacity ≡ record { recorder = in_state (Triggered (w + 1)) r; data_len = max len (w + 1) }
  unfolding recorded_of
  sample_next len capacity h = simp (recording, recorded_of, lt-ltb _ _ h)

  pub sample_dropped : (len capacity : ℕ) → capacity ≤ w → recorded_of r len capacity ≡ record { recorder = skipped_of r; data_len = len }
  unfolding recorded_of
  sample_dropped len capacity h = simp (recording, recorded_of, le-ltb _ _ h)

  -- past the end of the memory `set` changes nothing
  pub memory_set : (x : ℕ) (mem : List ℕ) → data_after r x mem ≡ set mem w x
  unfolding data_after
  memory_set x mem = simp (recording, data_after) (go (ltb w (length mem)) refl)
    where
      go : (b : Bool) → ltb w (length mem) ≡ b → cond b (set mem w x) mem ≡ set mem w x
      go true e = refl
      go false e = sym (set_out mem w x (ltb-false w (length mem) e))

  pub good_recording : (len capacity : ℕ) → good_recorder r len capacity ≡ (leb w len && leb len capacity)
  unfolding good_recorder
  good_recording len capacity = simp (recording, good_recorder)
