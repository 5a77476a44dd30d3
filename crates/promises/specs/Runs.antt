-- Runs of calls: the record and the memory lent with it, as each call leaves them for the next, and what each call does
-- to one channel. A call changes them by the very definitions that its contract cites. Definitions only. Assumes
-- nothing.
use Rattle.std.specs.Prelude.{◌≡◌, ℕ, zero, suc, Bool, true, false, cond, List, [], ◌∷◌, ◌++◌, eqb, ltb, length, take, drop, get_or, Float, Result, Ok, Err, is_ok}
use Rattle.refusals.specs.declared.Refusal.{Refusal}
use Rattle.refusals.specs.Refusals.{code_of}
use Rattle.common_types.specs.declared.InitParams.{InitParams}
use Rattle.common_types.specs.declared.Params.{Params}
use Rattle.common_types.specs.declared.Note.{Note}
use Rattle.binary32.specs.Leaves.{zero32}
use Rattle.voice.specs.Soundness.{FittingParams}
use Rattle.channel.specs.declared.Channel.{Channel}
use Rattle.channel.specs.declared.Change.{Change}
use Rattle.channel.specs.declared.Change.TheVariants.{Start, Stop, Speed, Head, Reset}
use Rattle.channel.specs.declared.HeadChange.TheVariants.{StartRecording, StopRecording, Interpolate, Load, Choose, Delete}
use Rattle.channel.specs.Heads.{interpolates_after}
use Rattle.channel.specs.Soundness.{FittingChange}
use Rattle.sampler.specs.declared.Sampler.{Sampler}
use Rattle.sampler.specs.Refusals.{
  channel_at,
  change_judged,
  gather_judged,
  sample_judged,
  frame_judged,
  channel_judged,
  done_of,
}
use Rattle.sampler.specs.Samplers.{
  set_up_of,
  change_of,
  gather_of,
  gather_memory,
  part_of,
  process_sample_of,
  sample_memory,
  framed_of,
  ran_of,
}
use Rattle.questions.specs.declared.VoiceInfo.{VoiceInfo}
use Rattle.questions.specs.Questions.{print_error_info_of, iter_active_notes_of, get_voice_info_of}
use Rattle.questions.specs.Waveforms.{waveform_judged}
use Rattle.wave.specs.Reader.{file_judged}
use Rattle.recordings.specs.Waves.{write_judged, held_in, read_judged, read_wave_of, read_memory}
use Rattle.fates.specs.Events.{Event, idle, changes, gathers, sounds, is_reset}

pub record World : Type 0 where
  pub sampler : Sampler
  pub memory : List ℕ

-- the record that set-up hands back, and the memory that it was given
unfoldable pub set_up : ℕ → InitParams → List ℕ → World
set_up count p m = record { sampler = (set_up_of count p (length m)).sampler; memory = m }

-- the questions, each of one channel; a lent list is given as it is lent. Voice info is answered by value, with the
-- room that the caller has, and in a lent list. The waveform summary is of channel 0, and reads the memory; so does a
-- write of all recordings as a WAVE file (request 10/12), to a lent list of bytes
pub data Question : Type 0 where
  get_frames_processed : (j : ℕ) → Question
  get_data_len : (j : ℕ) → Question
  is_recording : (j : ℕ) → Question
  get_last_recorded_offset : (j : ℕ) → Question
  print_error_info : (j : ℕ) (text : List ℕ) → Question
  iter_active_notes : (j : ℕ) (notes : List ℕ) → Question
  get_voice_info : (j : ℕ) (p : Params) (room : ℕ) → Question
  fill_voice_info : (j : ℕ) (p : Params) (list : List VoiceInfo) → Question
  get_waveform_summary : (columns : ℕ) (list : List Float) → Question
  write_wave : (rate : ℕ) (out : List ℕ) → Question

-- every public call after set-up: a change of every channel, a sample, a frame, a read of a WAVE file (10/12), a gather
-- of the phrases (11/12), or a question, which changes nothing
pub data Call : Type 0 where
  change : (d : Change) → Call
  sample : (j : ℕ) (x : Float) (p : Params) → Call
  frame : (xs : List Float) (p : Params) → Call
  read_wave : (file : List ℕ) → Call
  gather : Call
  asks : (q : Question) → Call

-- the changes under their names
abbrev pub start : Float → Note → Float → Params → Call
start position note velocity p = change (Start p position note velocity)

abbrev pub stop : Note → Params → Call
stop note p = change (Stop p note)

abbrev pub speed : Note → Float → Call
speed note s = change (Speed note s)

abbrev pub start_recording : Call
start_recording = change (Head StartRecording)

abbrev pub stop_recording : Call
stop_recording = change (Head StopRecording)

-- request 7/12's setting
abbrev pub set_interpolation : Bool → Call
set_interpolation on = change (Head (Interpolate on))

-- request 11/12
abbrev pub choose_phrase : ℕ → Call
choose_phrase k = change (Head (Choose k))

abbrev pub delete_phrase : ℕ → Call
delete_phrase k = change (Head (Delete k))

abbrev pub reset : Call
reset = change Reset

-- ---- how a call is judged: by its refusal, or done

-- an answer's own judgement, without what it answers
abbrev pub judgement_of : {A : Type 0} → Result A Refusal → Result (Unit {0}) Refusal
judgement_of (Ok answer) = Ok tt
judgement_of (Err refusal) = Err refusal

unfoldable pub question_judged : World → Question → Result (Unit {0}) Refusal
question_judged w (get_frames_processed j) = channel_judged w.sampler j
question_judged w (get_data_len j) = channel_judged w.sampler j
question_judged w (is_recording j) = channel_judged w.sampler j
question_judged w (get_last_recorded_offset j) = channel_judged w.sampler j
question_judged w (print_error_info j text) = judgement_of (print_error_info_of w.sampler j (length text))
question_judged w (iter_active_notes j notes) = judgement_of (iter_active_notes_of w.sampler j (length notes))
question_judged w (get_voice_info j p room) = judgement_of (get_voice_info_of w.sampler j p room)
question_judged w (fill_voice_info j p list) = judgement_of (get_voice_info_of w.sampler j p (length list))
question_judged w (get_waveform_summary columns list) =
    waveform_judged w.sampler columns (length list) (length w.memory)
question_judged w (write_wave rate out) = write_judged w.sampler (length out) (length w.memory)

unfoldable pub call_judged : World → Call → Result (Unit {0}) Refusal
call_judged w (change d) = change_judged w.sampler d
call_judged w (sample j x p) = sample_judged w.sampler j p (length w.memory)
call_judged w (frame xs p) = frame_judged w.sampler (length xs) p (length w.memory)
call_judged w (read_wave f) = read_judged w.sampler (file_judged f) (length w.memory)
call_judged w gather = gather_judged w.sampler (length w.memory)
call_judged w (asks q) = question_judged w q

-- document 01's number of it: 0 where it is accepted
abbrev pub code : World → Call → ℕ
code w c = code_of (call_judged w c)

-- a row of the table, by its number, where its test holds, else what the rows after it give
abbrev pub row : Bool → ℕ → ℕ → ℕ
row test number rest = cond test number rest

abbrev pub with_sampler : Sampler → World → World
with_sampler s w = record { sampler = s; memory = w.memory }

unfoldable pub after : World → Call → World
after w (change d) = with_sampler (change_of w.sampler d).sampler w
after w (sample j x p) =
    record {
      sampler = (process_sample_of w.sampler j x p w.memory).sampler;
      memory = sample_memory w.sampler j x p w.memory;
    }
after w (frame xs p) =
    record {
      sampler = (framed_of w.sampler xs p w.memory).sampler;
      memory = (framed_of w.sampler xs p w.memory).memory;
    }
after w (read_wave f) =
    record {
      sampler = (read_wave_of w.sampler f (length w.memory)).sampler;
      memory = read_memory w.sampler f w.memory;
    }
after w gather =
    record {
      sampler = (gather_of w.sampler w.memory).sampler;
      memory = gather_memory w.sampler w.memory;
    }
after w (asks q) = w

unfoldable pub run : World → List Call → World
run w [] = w
run w (c ∷ cs) = run (after w c) cs

-- ---- one channel of it
abbrev pub chan : World → ℕ → Channel
chan w j = channel_at w.sampler j

-- its part of the memory
abbrev pub own_part : World → ℕ → List ℕ
own_part w j = part_of w.sampler j w.memory

-- what an accepted call does to channel j
unfoldable pub done_to : World → Call → ℕ → Event
done_to w (change d) j = changes d
done_to w (sample i x p) j = cond (eqb i j) (sounds p x (own_part w j)) idle
done_to w (frame xs p) j = cond (ltb j (length xs)) (sounds p (get_or xs j zero32) (own_part w j)) idle
done_to w (read_wave f) j = changes (Head (Load (held_in (file_judged f)).samples))
done_to w gather j = gathers (own_part w j)
done_to w (asks q) j = idle

-- a refused call does nothing
unfoldable pub event : World → Call → ℕ → Event
event w c j = cond (is_ok (call_judged w c)) (done_to w c j) idle

unfoldable pub events : World → List Call → ℕ → List Event
events w [] j = []
events w (c ∷ cs) j = event w c j ∷ events (after w c) cs j

-- ---- request 7/12: "It is a setting per sampler"

-- the setting after the calls, where it was `on` before: each accepted call that sets it does
abbrev pub setting_by : Bool → Call → Bool → Bool
setting_by accepted (change (Head d)) on = cond accepted (interpolates_after d on) on
setting_by accepted (change (Start p position note velocity)) on = on
setting_by accepted (change (Stop p note)) on = on
setting_by accepted (change (Speed note s)) on = on
setting_by accepted (change Reset) on = on
setting_by accepted (sample j x p) on = on
setting_by accepted (frame xs p) on = on
setting_by accepted (read_wave f) on = on
setting_by accepted gather on = on
setting_by accepted (asks q) on = on

unfoldable pub setting_in : World → Bool → List Call → Bool
setting_in w on [] = on
setting_in w on (c ∷ cs) = setting_in (after w c) (setting_by (is_ok (call_judged w c)) c on) cs

unfoldable pub is_reset_call : Call → Bool
is_reset_call (change d) = is_reset (changes d)
is_reset_call (sample j x p) = false
is_reset_call (frame xs p) = false
is_reset_call (read_wave f) = false
is_reset_call gather = false
is_reset_call (asks q) = false

-- a read or a gather, which alone write memory beside samples
unfoldable pub rewrites : Call → Bool
rewrites (change d) = false
rewrites (sample j x p) = false
rewrites (frame xs p) = false
rewrites (read_wave f) = true
rewrites gather = true
rewrites (asks q) = false

-- ---- the output that a call answers for channel j, where it is a sample of it
unfoldable pub output : World → Call → ℕ → Float
output w (change d) j = zero32
output w (sample i x p) j = (process_sample_of w.sampler i x p w.memory).output
output w (frame xs p) j = get_or (framed_of w.sampler xs p w.memory).frame j zero32
output w (read_wave f) j = zero32
output w gather j = zero32
output w (asks q) j = zero32

-- ---- the last of the calls c ∷ cs, and the world as that one finds it
abbrev pub final : Call → List Call → Call
final c [] = c
final c (d ∷ ds) = final d ds

unfoldable pub before : World → Call → List Call → World
before w c [] = w
before w c (d ∷ ds) = before (after w c) d ds

-- ---- the floats of a call are of binary32, as every f32 of a program is
unfoldable pub FittingCall : Call → Type 0
FittingCall (change d) = FittingChange d
FittingCall (sample j x p) = FittingParams p
FittingCall (frame xs p) = FittingParams p
FittingCall (read_wave f) = Unit {0}
FittingCall gather = Unit {0}
FittingCall (asks q) = Unit {0}

-- ---- a host's calls: those above, and a run of frames (request 3/12), whose entries are lent frame after frame
pub data Made : Type 0 where
  one : (c : Call) → Made
  frames : (xs : List Float) (p : Params) → Made

-- the frames that a run does
abbrev pub frames_done : World → List Float → Params → ℕ
frames_done w xs p = done_of w.sampler (length xs) p (length w.memory)

-- k frames of n entries each, as calls
unfoldable pub frame_calls : Params → ℕ → ℕ → List Float → List Call
frame_calls p n zero xs = []
frame_calls p n (suc k) xs = frame (take n xs) p ∷ frame_calls p n k (drop n xs)

-- what a host's call is spread into: a run, into the frame calls of the part that is done, each with its own entries
unfoldable pub spread : World → Made → List Call
spread w (one c) = c ∷ []
spread w (frames xs p) = frame_calls p w.sampler.count (frames_done w xs p) xs

-- what it leaves, by the definitions that its contract cites
unfoldable pub made : World → Made → World
made w (one c) = after w c
made w (frames xs p) =
    record {
      sampler = (ran_of w.sampler xs p w.memory).sampler;
      memory = (ran_of w.sampler xs p w.memory).memory;
    }

unfoldable pub makes : World → List Made → World
makes w [] = w
makes w (h ∷ hs) = makes (made w h) hs

unfoldable pub spread_all : World → List Made → List Call
spread_all w [] = []
spread_all w (h ∷ hs) = spread w h ++ spread_all (made w h) hs

-- the entries that frame calls leave in what is lent to them, one call after the other
unfoldable pub played_in : World → Call → List Float
played_in w (change d) = []
played_in w (sample j x p) = []
played_in w (frame xs p) = (framed_of w.sampler xs p w.memory).frame
played_in w (read_wave f) = []
played_in w gather = []
played_in w (asks q) = []

unfoldable pub played_by : World → List Call → List Float
played_by w [] = []
played_by w (c ∷ cs) = played_in w c ++ played_by (after w c) cs

-- each of the calls is accepted
unfoldable pub Accepted : World → List Call → Type 0
Accepted w [] = Unit {0}
Accepted w (c ∷ cs) = (code w c ≡ 0) × Accepted (after w c) cs

unfoldable pub FittingMade : Made → Type 0
FittingMade (one c) = FittingCall c
FittingMade (frames xs p) = FittingParams p
