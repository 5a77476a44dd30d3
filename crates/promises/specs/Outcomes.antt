-- Every public call with all that it is given, and which outcomes its contract allows: the result, and what was lent to
-- it is at the end. `Allows` says of each call what the `ensures` lines of its function say, in the same
-- definitions. That it does is checked of each function in the crate `contracts`: of those by value
-- (sampler/src/lib.rt, questions/src/lib.rt, recordings/src/lib.rt, smf/src/lib.rt, songs/src/lib.rt) by a twin whose `ensures` is `Allows`, and of those on a record that the
-- host lends (lent_sampler/src/lib.rt, lent_songs/src/lib.rt) by the theorem `Lent` on the function itself. Definitions only. Assumes nothing.
use Rattle.std.specs.Prelude.{◌≡◌, ℕ, Bool, List, [], ◌∷◌, length, get_or, Float, Option, Result}
use Rattle.refusals.specs.declared.Refusal.{Refusal}
use Rattle.refusals.specs.Refusals.{code_of}
use Rattle.common_types.specs.declared.InitParams.{InitParams}
use Rattle.binary32.specs.Leaves.{zero32}
use Rattle.sampler.specs.declared.Answer.{Answer}
use Rattle.sampler.specs.declared.SampleAnswer.{SampleAnswer}
use Rattle.sampler.specs.declared.FrameAnswer.{FrameAnswer}
use Rattle.sampler.specs.declared.RunAnswer.{RunAnswer}
use Rattle.common_types.specs.declared.Params.{Params}
use Rattle.sampler.specs.Refusals.{frame_judged}
use Rattle.sampler.specs.Samplers.{
  set_up_of,
  change_of,
  gather_of,
  gather_memory,
  process_sample_of,
  sample_memory,
  Frames,
  framed_of,
  frame_moved,
  ran_of,
  run_answer,
}
use Rattle.questions.specs.declared.VoiceInfo.{VoiceInfo}
use Rattle.questions.specs.declared.VoiceInfos.{VoiceInfos}
use Rattle.questions.specs.Questions.{
  get_frames_processed_of,
  get_data_len_of,
  is_recording_of,
  get_last_recorded_offset_of,
  print_error_info_of,
  error_text_after,
  iter_active_notes_of,
  active_notes_after,
  get_voice_info_of,
}
use Rattle.questions.specs.declared.WaveformSummary.{WaveformSummary}
use Rattle.questions.specs.Waveforms.{get_waveform_summary_of, waveform_after}
use Rattle.recordings.specs.declared.ReadAnswer.{ReadAnswer}
use Rattle.recordings.specs.Waves.{write_wave_of, wave_after, read_wave_of, read_memory}
use Rattle.questions.specs.Lists.{voice_info_counted, voice_info_after}
use Rattle.smf.specs.Cues.{cues_number, counted_judged, list_of}
use Rattle.smf.specs.declared.SongRefusal.{SongRefusal}
use Rattle.songs.specs.Plays.{play_of}
use Rattle.songs.specs.declared.Playing.{Playing}
use Rattle.sampler.specs.declared.Sampler.{Sampler}
use Rattle.promises.specs.Runs.{
  World,
  get_frames_processed,
  get_data_len,
  is_recording,
  get_last_recorded_offset,
  print_error_info,
  iter_active_notes,
  get_voice_info,
  fill_voice_info,
  get_waveform_summary,
  write_wave,
  Call,
  change,
  sample,
  frame,
  read_wave,
  gather,
  asks,
  Made,
  one,
  frames,
  with_sampler,
  judgement_of,
}

-- set-up on a memory; every call on a record, with the memory that is lent to a sample, a frame and a waveform; a run
-- of frames on them; a song that is read into a list; and what is due of a list, played
pub data Given : Type 0 where
  new : (count : ℕ) (p : InitParams) (memory : List ℕ) → Given
  on : (w : World) (c : Call) → Given
  along : (w : World) (xs : List Float) (p : Params) → Given
  reads : (file : List ℕ) (rate : ℕ) (list : List ℕ) → Given
  plays : (s : Sampler) (list : List ℕ) (next at : ℕ) (p : Params) → Given

-- ---- outcomes
pub record SampleOutcome : Type 0 where
  pub answer : SampleAnswer
  pub memory : List ℕ

pub record FrameOutcome : Type 0 where
  pub answer : FrameAnswer
  pub frame : List Float
  pub memory : List ℕ

pub record RunOutcome : Type 0 where
  pub answer : RunAnswer
  pub run : List Float
  pub memory : List ℕ

pub record ReadOutcome : Type 0 where
  pub answer : ReadAnswer
  pub memory : List ℕ

pub record GatherOutcome : Type 0 where
  pub answer : Answer
  pub memory : List ℕ

-- of a question that is answered in a lent list
pub record ListOutcome : Type 0 where
  pub answer : Result ℕ Refusal
  pub lent : List ℕ

pub record InfoOutcome : Type 0 where
  pub answer : Result ℕ Refusal
  pub lent : List VoiceInfo

pub record WaveformOutcome : Type 0 where
  pub answer : Result WaveformSummary Refusal
  pub lent : List Float

pub record SongOutcome : Type 0 where
  pub answer : Result ℕ SongRefusal
  pub lent : List ℕ

abbrev pub Outcome : Given → Type 0
Outcome (new count p m) = Answer
Outcome (on w (change d)) = Answer
Outcome (on w (sample j x p)) = SampleOutcome
Outcome (on w (frame xs p)) = FrameOutcome
Outcome (on w (read_wave f)) = ReadOutcome
Outcome (on w gather) = GatherOutcome
Outcome (along w xs p) = RunOutcome
Outcome (reads f rate list) = SongOutcome
Outcome (plays s list next at p) = Playing
Outcome (on w (asks (get_frames_processed j))) = Result ℕ Refusal
Outcome (on w (asks (get_data_len j))) = Result ℕ Refusal
Outcome (on w (asks (is_recording j))) = Result Bool Refusal
Outcome (on w (asks (get_last_recorded_offset j))) = Result (Option ℕ) Refusal
Outcome (on w (asks (print_error_info j text))) = ListOutcome
Outcome (on w (asks (iter_active_notes j notes))) = ListOutcome
Outcome (on w (asks (get_voice_info j p room))) = Result VoiceInfos Refusal
Outcome (on w (asks (fill_voice_info j p list))) = InfoOutcome
Outcome (on w (asks (get_waveform_summary columns list))) = WaveformOutcome
Outcome (on w (asks (write_wave rate out))) = ListOutcome

-- ---- what the contracts allow
abbrev pub Allows : (g : Given) → Outcome g → Type 0
Allows (new count p m) r = r ≡ set_up_of count p (length m)
Allows (on w (change d)) r = r ≡ change_of w.sampler d
Allows (on w (sample j x p)) r = (r.answer ≡ process_sample_of w.sampler j x p w.memory)
    × (r.memory ≡ sample_memory w.sampler j x p w.memory)
Allows (on w (frame xs p)) r =
    (r.answer.done ≡ frame_judged w.sampler (length xs) p (length w.memory))
    × Frames (framed_of w.sampler xs p w.memory) r.answer.sampler r.frame r.memory
    × (r.answer.moved ≡ frame_moved w.sampler xs p w.memory)
Allows (on w (read_wave f)) r =
    (r.answer ≡ read_wave_of w.sampler f (length w.memory)) × (r.memory ≡ read_memory w.sampler f w.memory)
Allows (on w gather) r =
    (r.answer ≡ gather_of w.sampler w.memory) × (r.memory ≡ gather_memory w.sampler w.memory)
Allows (along w xs p) r =
    (r.answer.ran ≡ run_answer w.sampler (length xs) p (length w.memory))
    × Frames (ran_of w.sampler xs p w.memory) r.answer.sampler r.run r.memory
Allows (reads f rate list) r = (r.answer ≡ counted_judged f rate (length list)) × (r.lent ≡ list_of f rate list)
Allows (plays s list next at p) r = r ≡ play_of s list next at p
Allows (on w (asks (get_frames_processed j))) r = r ≡ get_frames_processed_of w.sampler j
Allows (on w (asks (get_data_len j))) r = r ≡ get_data_len_of w.sampler j
Allows (on w (asks (is_recording j))) r = r ≡ is_recording_of w.sampler j
Allows (on w (asks (get_last_recorded_offset j))) r = r ≡ get_last_recorded_offset_of w.sampler j
Allows (on w (asks (print_error_info j text))) r = (r.answer ≡ print_error_info_of w.sampler j (length text))
    × (r.lent ≡ error_text_after w.sampler j text)
Allows (on w (asks (iter_active_notes j notes))) r = (r.answer ≡ iter_active_notes_of w.sampler j (length notes))
    × (r.lent ≡ active_notes_after w.sampler j notes)
Allows (on w (asks (get_voice_info j p room))) r = r ≡ get_voice_info_of w.sampler j p room
Allows (on w (asks (fill_voice_info j p list))) r = (r.answer ≡ voice_info_counted w.sampler j p list)
    × (r.lent ≡ voice_info_after w.sampler j p list)
Allows (on w (asks (get_waveform_summary columns list))) r =
    (r.answer ≡ get_waveform_summary_of w.sampler columns (length list) w.memory)
    × (r.lent ≡ waveform_after w.sampler columns list w.memory)
Allows (on w (asks (write_wave rate out))) r = (r.answer ≡ write_wave_of w.sampler (length out) (length w.memory))
    × (r.lent ≡ wave_after w.sampler rate w.memory out)

-- one outcome, and no other
pub record Settled (g : Given) : Type 0 where
  pub outcome : Outcome g
  pub allowed : Allows g outcome
  pub only : (r : Outcome g) → Allows g r → r ≡ outcome

-- ---- what is read off an outcome

-- how a call on a record was judged
abbrev pub judged_in : (w : World) (c : Call) → Outcome (on w c) → Result (Unit {0}) Refusal
judged_in w (change d) r = r.done
judged_in w (sample j x p) r = r.answer.done
judged_in w (frame xs p) r = r.answer.done
judged_in w (read_wave f) r = judgement_of r.answer.read
judged_in w gather r = r.answer.done
judged_in w (asks (get_frames_processed j)) r = judgement_of r
judged_in w (asks (get_data_len j)) r = judgement_of r
judged_in w (asks (is_recording j)) r = judgement_of r
judged_in w (asks (get_last_recorded_offset j)) r = judgement_of r
judged_in w (asks (print_error_info j text)) r = judgement_of r.answer
judged_in w (asks (iter_active_notes j notes)) r = judgement_of r.answer
judged_in w (asks (get_voice_info j p room)) r = judgement_of r
judged_in w (asks (fill_voice_info j p list)) r = judgement_of r.answer
judged_in w (asks (get_waveform_summary columns list)) r = judgement_of r.answer
judged_in w (asks (write_wave rate out)) r = judgement_of r.answer

-- document 01's or 02's number; playing a song has none, and answers how many of its calls were refused
abbrev pub number_in : (g : Given) → Outcome g → ℕ
number_in (new count p m) r = code_of r.done
number_in (on w c) r = code_of (judged_in w c r)
number_in (along w xs p) r = code_of r.answer.ran.done
number_in (reads f rate list) r = cues_number r.answer
number_in (plays s list next at p) r = 0

-- the record and the memory for the next call
abbrev pub left_by : (w : World) (c : Call) → Outcome (on w c) → World
left_by w (change d) r = with_sampler r.sampler w
left_by w (sample j x p) r = record { sampler = r.answer.sampler; memory = r.memory }
left_by w (frame xs p) r = record { sampler = r.answer.sampler; memory = r.memory }
left_by w (read_wave f) r = record { sampler = r.answer.sampler; memory = r.memory }
left_by w gather r = record { sampler = r.answer.sampler; memory = r.memory }
left_by w (asks q) r = w

-- the same after a run
abbrev pub world_left_along : RunOutcome → World
world_left_along r = record { sampler = r.answer.sampler; memory = r.memory }

-- the output for channel j, where the call is a sample of it
abbrev pub output_in : (w : World) (c : Call) → Outcome (on w c) → ℕ → Float
output_in w (change d) r j = zero32
output_in w (sample i x p) r j = r.answer.output
output_in w (frame xs p) r j = get_or r.frame j zero32
output_in w (read_wave f) r j = zero32
output_in w gather r j = zero32
output_in w (asks q) r j = zero32

-- a frame or list that was lent holds what it held
unfoldable pub Untouched : (w : World) (c : Call) → Outcome (on w c) → Type 0
Untouched w (change d) r = Unit {0}
Untouched w (sample j x p) r = Unit {0}
Untouched w (frame xs p) r = r.frame ≡ xs
Untouched w (read_wave f) r = Unit {0}
Untouched w gather r = Unit {0}
Untouched w (asks (get_frames_processed j)) r = Unit {0}
Untouched w (asks (get_data_len j)) r = Unit {0}
Untouched w (asks (is_recording j)) r = Unit {0}
Untouched w (asks (get_last_recorded_offset j)) r = Unit {0}
Untouched w (asks (print_error_info j text)) r = r.lent ≡ text
Untouched w (asks (iter_active_notes j notes)) r = r.lent ≡ notes
Untouched w (asks (get_voice_info j p room)) r = Unit {0}
Untouched w (asks (fill_voice_info j p list)) r = r.lent ≡ list
Untouched w (asks (get_waveform_summary columns list)) r = r.lent ≡ list
Untouched w (asks (write_wave rate out)) r = r.lent ≡ out

-- ---- what a host calls by the contracts alone: each call leaves what some outcome that its contract allows leaves
pub data Chain : World → List Made → World → Type 0 where
  ended : {w : World} → Chain w [] w
  called : {w u : World} {c : Call} {hs : List Made} (r : Outcome (on w c)) → Allows (on w c) r
      → Chain (left_by w c r) hs u → Chain w (one c ∷ hs) u
  ran : {w u : World} {xs : List Float} {p : Params} {hs : List Made} (r : RunOutcome) → Allows (along w xs p) r
      → Chain (world_left_along r) hs u → Chain w (frames xs p ∷ hs) u
