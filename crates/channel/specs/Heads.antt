-- What of a channel is not its voices: clock, recording and pass-through (document 01, module 6, and the Rust's
-- Channel). Definitions only.
use Rattle.std.specs.Prelude.{ℕ, ◌+◌, ◌-◌, ◌^◌, min, Bool, true, false, not, ◌&&◌, cond, leb, ltb, eqb, Float}
use Rattle.std.specs.Bool.{beq}
use Rattle.std.specs.Float.{binary32}
use Rattle.std.specs.Float.Ieee.{add, mul}
use Rattle.common_types.specs.declared.Params.{Params}
use Rattle.volume.specs.declared.Volume.{Volume}
use Rattle.volume.specs.declared.Volume.TheVariants.{Static}
use Rattle.volume.specs.Levels.{is_static_of, level_of, toward_of, stepped_of, good_volume}
use Rattle.binary32.specs.Leaves.{zero32, one32}
use Rattle.phrases.specs.declared.Phrase.{Phrase}
use Rattle.phrases.specs.declared.Room.{Room}
use Rattle.phrases.specs.declared.Beside.{Beside}
use Rattle.phrases.specs.Phrases.{no_phrase, empty_from, is_over_by, room_of}
use Rattle.recorder.specs.declared.Recorder.{Recorder}
use Rattle.recorder.specs.declared.Recorded.{Recorded}
use Rattle.recorder.specs.Recording.{new_recorder_of, start_of, stop_of, is_recording_of, good_recorder}
use Rattle.voice.specs.declared.Moment.{Moment}
use Rattle.channel.specs.declared.Head.{Head}
use Rattle.channel.specs.declared.HeadChange.{HeadChange}
use Rattle.channel.specs.declared.HeadChange.TheVariants.{
  StartRecording,
  StopRecording,
  Interpolate,
  Load,
  Choose,
  Delete,
}

-- ---- parts of a head changed
abbrev pub with_recorded : Recorded → Head → Head
with_recorded r
    h = record {
      now = h.now;
      data_len = r.data_len;
      start = h.start;
      passthru_volume = h.passthru_volume;
      recorder = r.recorder;
      passthru_on = h.passthru_on;
      interpolates = h.interpolates;
      chosen = h.chosen;
    }

abbrev pub with_passthru : Bool → Volume → Head → Head
with_passthru on volume
    h = record {
      now = h.now;
      data_len = h.data_len;
      start = h.start;
      passthru_volume = volume;
      recorder = h.recorder;
      passthru_on = on;
      interpolates = h.interpolates;
      chosen = h.chosen;
    }

-- the recording begins elsewhere
abbrev pub starting_at : ℕ → Head → Head
starting_at start
    h = record {
      now = h.now;
      data_len = h.data_len;
      start = start;
      passthru_volume = h.passthru_volume;
      recorder = h.recorder;
      passthru_on = h.passthru_on;
      interpolates = h.interpolates;
      chosen = h.chosen;
    }

-- ---- phrases (request 11/12)

-- the recording is the phrase that is chosen
abbrev pub recording_in : Head → Phrase
recording_in h = record { start = h.start; length = h.data_len }

-- the phrase of a number, by its entry of the table: the chosen one is the recording, and where there aren't several the
-- others are empty
unfoldable pub phrase_by : Head → ℕ → Bool → Phrase → Phrase
phrase_by h k several entry = cond (eqb k h.chosen) (recording_in h) (cond (several && ltb k 8) entry no_phrase)

-- "An empty phrase begins behind the others when recording into it starts": where a recording begins that starts or is
-- read, where the others reach so far
unfoldable pub begins_at : ℕ → Head → ℕ
begins_at behind h = cond (eqb h.data_len 0 && not (is_recording_of h.recorder)) behind h.start

-- "Recording over a phrase that isn't last may replace samples but not lengthen it": the part of a memory of that size
-- that the recorder writes to. A phrase is last if the others reach no further than its start
unfoldable pub written_in : ℕ → Head → ℕ → Room
written_in behind h size =
    cond (leb behind h.start) (record { from = min h.start size; to = size }) (room_of (recording_in h) size)

-- "more than it may hold without moving another": how many samples the recording may have
unfoldable pub holds_of : Beside → ℕ → Head → ℕ
holds_of b capacity h = cond (eqb h.data_len 0) (capacity - b.behind) (b.next - h.start)

-- ---- what the voices of a phrase of n samples go by in one sample
abbrev pub moment_on : Head → ℕ → ℕ → Moment
moment_on h k n = record { now = h.now; data_len = n; interpolates = h.interpolates; phrase = k }

-- what those go by that start now
abbrev pub moment_of : Head → Moment
moment_of h = moment_on h h.chosen h.data_len

-- ---- the clock: it ends at 2 ^ 48, and a sample then is refused (row 6)
abbrev pub last_time : ℕ
last_time = 2 ^ 48

unfoldable pub next_time : ℕ → ℕ
next_time now = cond (ltb now last_time) (now + 1) now

-- ---- a new head, and what a reset leaves: pass-through at 0 whatever set-up had, and request 7/12's setting as it was
unfoldable pub head_of : Float → Bool → Head
head_of level interpolates =
    record {
      now = 0;
      data_len = 0;
      start = 0;
      passthru_volume = Static level;
      recorder = new_recorder_of;
      passthru_on = false;
      interpolates = interpolates;
      chosen = 0;
    }

-- ---- the changes that touch no voice. Each finds something of the other phrases: a choice the one that it names, a start
-- of recording and a read (request 10/12) how far they reach, where an empty one begins

-- the recording after it: a stop cuts it to the write place, a read makes it as long as what is read, a choice puts
-- another in its place, a delete empties it
unfoldable pub phrase_after : HeadChange → Phrase → Head → Phrase
phrase_after StartRecording found h = record { start = begins_at found.start h; length = h.data_len }
phrase_after StopRecording found h =
    record { start = h.start; length = (stop_of h.recorder h.data_len).data_len }
phrase_after (Interpolate on) found h = recording_in h
phrase_after (Load samples) found h = record { start = begins_at found.start h; length = samples }
phrase_after (Choose k) found h = cond (eqb k h.chosen) (recording_in h) found
phrase_after (Delete k) found h = cond (eqb k h.chosen) (empty_from h.start) (recording_in h)

unfoldable pub recorder_after : HeadChange → Head → Recorder
recorder_after StartRecording h = start_of h.recorder
recorder_after StopRecording h = (stop_of h.recorder h.data_len).recorder
recorder_after (Interpolate on) h = h.recorder
recorder_after (Load samples) h = h.recorder
recorder_after (Choose k) h = h.recorder
recorder_after (Delete k) h = h.recorder

-- 7/12's setting after it: the one that sets it does, and the others keep it
unfoldable pub interpolates_after : HeadChange → Bool → Bool
interpolates_after StartRecording on = on
interpolates_after StopRecording on = on
interpolates_after (Interpolate new) on = new
interpolates_after (Load samples) on = on
interpolates_after (Choose k) on = on
interpolates_after (Delete k) on = on

-- the number that is chosen after it
unfoldable pub chosen_after : HeadChange → ℕ → ℕ
chosen_after StartRecording chosen = chosen
chosen_after StopRecording chosen = chosen
chosen_after (Interpolate on) chosen = chosen
chosen_after (Load samples) chosen = chosen
chosen_after (Choose k) chosen = k
chosen_after (Delete k) chosen = chosen

unfoldable pub head_changed_of : HeadChange → Phrase → Head → Head
head_changed_of d found
    h = record {
      now = h.now;
      data_len = (phrase_after d found h).length;
      start = (phrase_after d found h).start;
      passthru_volume = h.passthru_volume;
      recorder = recorder_after d h;
      passthru_on = h.passthru_on;
      interpolates = interpolates_after d h.interpolates;
      chosen = chosen_after d h.chosen;
    }

-- ---- handle_passthru: the input passes while it is asked for and no voice is unfinished;
-- a change of that begins a ramp
abbrev pub passes_of : Params → Bool → Bool
passes_of p unfinished = p.auto_passthru && not unfinished

unfoldable pub ramp_of : Volume → ℕ → Params → Bool → Volume
ramp_of v now p true = toward_of v now p.attack_samples one32
ramp_of v now p false = toward_of v now p.decay_samples zero32

unfoldable pub passthru_of : Params → Bool → Head → Head
passthru_of p unfinished h =
    let on = passes_of p unfinished in
    cond (beq on h.passthru_on) h (with_passthru on (ramp_of h.passthru_volume h.now p on) h)

-- what is heard: the voices' sum, and the input at its level
abbrev pub mixed_of : Float → Float → Head → Float
mixed_of x played h = add binary32 (add binary32 zero32 played)
    (mul binary32 x (level_of h.passthru_volume h.now))

-- a sample later
abbrev pub clocked_of : Head → Head
clocked_of h =
    record {
      now = next_time h.now;
      data_len = h.data_len;
      start = h.start;
      passthru_volume = h.passthru_volume;
      recorder = h.recorder;
      passthru_on = h.passthru_on;
      interpolates = h.interpolates;
      chosen = h.chosen;
    }

-- the end of a sample: the level's step, the change of state, and the clock
unfoldable pub closed_of : Params → Bool → Head → Head
closed_of p unfinished h = clocked_of
    (passthru_of p unfinished (with_passthru h.passthru_on (stepped_of h.passthru_volume h.now) h))

-- pass-through rests: its level is steady, and it is as wanted, so that the end of a sample moves the clock alone
unfoldable pub rests_of : Bool → Head → Bool
rests_of wanted h = is_static_of h.passthru_volume && beq wanted h.passthru_on

-- ---- a head that may stand in a record of that capacity: there is a chosen phrase, and it lies within the capacity
-- (request 11/12)
unfoldable pub good_head : ℕ → Head → Bool
good_head capacity h = (leb h.now last_time && (ltb h.chosen 8 && is_over_by capacity (recording_in h)))
    && good_volume h.now h.passthru_volume && good_recorder h.recorder h.data_len capacity
