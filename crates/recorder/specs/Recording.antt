-- What each call of the recorder does (document 01, module 5). `len` is the length of the data, `capacity` that of the
-- lent memory. Assumes nothing.
use Rattle.std.specs.Prelude.{Bool, true, false, cond, ◌&&◌, List, ℕ, ◌+◌, ◌≤◌, max, min, ltb, leb, length, set, Option, Some, None}
use Rattle.recorder.specs.declared.State.{State}
use Rattle.recorder.specs.declared.State.TheVariants.{Triggered, Idle}
use Rattle.recorder.specs.declared.Recorder.{Recorder}
use Rattle.recorder.specs.declared.Recorded.{Recorded}

-- one more, but a count holds at 2 ^ 32 - 1
unfoldable pub raised : ℕ → ℕ
raised n = cond (ltb n 4294967295) (n + 1) n

-- idle, with no error counted
abbrev pub new_recorder_of : Recorder
new_recorder_of = record { state = Idle; skipped_samples = 0; incorrect_state = 0 }

-- the recorder in another state
unfoldable pub in_state : State → Recorder → Recorder
in_state s r = record { state = s; skipped_samples = r.skipped_samples; incorrect_state = r.incorrect_state }

-- one more state error
unfoldable pub misused_of : Recorder → Recorder
misused_of r =
    record {
      state = r.state;
      skipped_samples = r.skipped_samples;
      incorrect_state = raised r.incorrect_state;
    }

-- one more sample skipped
unfoldable pub skipped_of : Recorder → Recorder
skipped_of r =
    record {
      state = r.state;
      skipped_samples = raised r.skipped_samples;
      incorrect_state = r.incorrect_state;
    }

-- recording begins at place 0; while recording it is an error
unfoldable pub start_of : Recorder → Recorder
start_of r = elim r.state [ Idle ↦ in_state (Triggered 0) r | Triggered write ↦ misused_of r ]

-- the data is cut to the write place; while idle it is an error
unfoldable pub stop_of : Recorder → ℕ → Recorded
stop_of r len = elim r.state [
  | Triggered write ↦ record { recorder = in_state Idle r; data_len = min len write }
  | Idle ↦ record { recorder = misused_of r; data_len = len }
]

-- while recording: a sample goes to the write place, and the data is as long as that needs; at capacity it is skipped
unfoldable pub recorded_of : Recorder → ℕ → ℕ → Recorded
recorded_of r len capacity = elim r.state [
  | Triggered write ↦ cond (ltb write capacity)
      (record { recorder = in_state (Triggered (write + 1)) r; data_len = max len (write + 1) })
      (record { recorder = skipped_of r; data_len = len })
  | Idle ↦ record { recorder = r; data_len = len }
]

-- the memory after a sample: the sample at the write place, if that is one of the memory's
unfoldable pub data_after : Recorder → ℕ → List ℕ → List ℕ
data_after r sample mem = elim r.state [
  | Triggered write ↦ cond (ltb write (length mem)) (set mem write sample) mem
  | Idle ↦ mem
]

unfoldable pub last_recorded_offset_of : Recorder → Option ℕ
last_recorded_offset_of r = elim r.state [ Triggered write ↦ Some write | Idle ↦ None ]

unfoldable pub is_recording_of : Recorder → Bool
is_recording_of r = elim r.state [ Triggered write ↦ true | Idle ↦ false ]

-- the write place doesn't exceed the length of the data, nor that the capacity
unfoldable pub good_recorder : Recorder → ℕ → ℕ → Bool
good_recorder r len capacity = elim r.state [ Triggered write ↦ leb write len | Idle ↦ true ] && leb len capacity

-- the same of what a stop or a sample leaves
abbrev pub good_recorded : Recorded → ℕ → Bool
good_recorded x capacity = good_recorder x.recorder x.data_len capacity

-- from count a to count b: no fewer, at most one more, and not past the top
pub record Rises (a b : ℕ) : Type 0 where
  pub up : a ≤ b
  pub one : b ≤ a + 1
  pub top : a ≤ 4294967295 → b ≤ 4294967295

-- both counts rise so from recorder r to recorder s
pub record CountsRise (r s : Recorder) : Type 0 where
  pub skips : Rises r.skipped_samples s.skipped_samples
  pub misuses : Rises r.incorrect_state s.incorrect_state
