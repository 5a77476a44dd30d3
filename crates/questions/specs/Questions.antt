-- What each question of the sampler answers (document 01, module 6), and its refusals in the table's order. Definitions
-- only. Assumes nothing.
use Rattle.std.specs.Prelude.{ℕ, Bool, not, cond, List, map, ◌++◌, ltb, length, drop, replicate, Float, Option, Result, Ok, is_ok}
use Rattle.std.specs.Float.{binary32}
use Rattle.std.specs.Float.Ieee.{add, div, rem}
use Rattle.binary32.specs.Leaves.{as_float, zero32, one32}
use Rattle.refusals.specs.declared.Refusal.{Refusal}
use Rattle.refusals.specs.declared.Refusal.TheVariants.{NoChannel, BeyondLimits, ShortList, Broken}
use Rattle.refusals.specs.Refusals.{code_of, row}
use Rattle.walks.specs.Walks.{without}
use Rattle.common_types.specs.declared.Params.{Params}
use Rattle.common_types.specs.Notes.{into_u64_of}
use Rattle.common_types.specs.Settings.{beyond_limits, loop_length_of}
use Rattle.recorder.specs.declared.Recorder.{Recorder}
use Rattle.recorder.specs.Recording.{last_recorded_offset_of}
use Rattle.recorder.specs.Recording.{is_recording_of as records_of}
use Rattle.recorder.specs.ErrorText.{error_text}
use Rattle.voice.specs.declared.Voice.{Voice}
use Rattle.channel.specs.declared.Channel.{Channel}
use Rattle.channel.specs.Channels.{live, phrase_at}
use Rattle.sampler.specs.declared.Sampler.{Sampler}
use Rattle.sampler.specs.Refusals.{channel_at, good_sampler, no_channel, question_rows}
use Rattle.questions.specs.declared.VoiceInfo.{VoiceInfo}
use Rattle.questions.specs.declared.VoiceInfos.{VoiceInfos}

-- ---- an answer in the front of a list, whose rest is kept
abbrev pub in_front : {A : Type 0} → List A → List A → List A
in_front answer l = answer ++ drop (length answer) l

-- ---- questions of one channel
abbrev pub recorder_at : Sampler → ℕ → Recorder
recorder_at s j = (channel_at s j).head.recorder

abbrev pub get_frames_processed_of : Sampler → ℕ → Result ℕ Refusal
get_frames_processed_of s j = question_rows s j (Ok (channel_at s j).head.now)

abbrev pub get_data_len_of : Sampler → ℕ → Result ℕ Refusal
get_data_len_of s j = question_rows s j (Ok (channel_at s j).head.data_len)

abbrev pub is_recording_of : Sampler → ℕ → Result Bool Refusal
is_recording_of s j = question_rows s j (Ok (records_of (recorder_at s j)))

abbrev pub get_last_recorded_offset_of : Sampler → ℕ → Result (Option ℕ) Refusal
get_last_recorded_offset_of s j = question_rows s j (Ok (last_recorded_offset_of (recorder_at s j)))

-- ---- questions whose answer is a list, to be written to a lent one with that much room:
-- how long it is, and the lent list afterwards
abbrev pub list_counted_by : Bool → Bool → List ℕ → ℕ → Result ℕ Refusal
list_counted_by broken absent answer room =
    row broken Broken (row absent NoChannel (row (ltb room (length answer)) ShortList (Ok (length answer))))

abbrev pub list_after_by : List ℕ → List ℕ → Result ℕ Refusal → List ℕ
list_after_by answer lent counted = cond (is_ok counted) (in_front answer lent) lent

unfoldable pub list_counted : Sampler → ℕ → List ℕ → ℕ → Result ℕ Refusal
list_counted s j = list_counted_by (not (good_sampler s)) (no_channel s j)

abbrev pub list_number : Sampler → ℕ → List ℕ → ℕ → ℕ
list_number s j answer room = code_of (list_counted s j answer room)

unfoldable pub list_after : Sampler → ℕ → List ℕ → List ℕ → List ℕ
list_after s j answer lent = list_after_by answer lent (list_counted s j answer (length lent))

abbrev pub print_error_info_of : Sampler → ℕ → ℕ → Result ℕ Refusal
print_error_info_of s j room = list_counted s j (error_text (recorder_at s j)) room

abbrev pub error_text_after : Sampler → ℕ → List ℕ → List ℕ
error_text_after s j text = list_after s j (error_text (recorder_at s j)) text

-- the notes of the voices that are not finished, in order, each packed into one number
unfoldable pub notes_of : List Voice → List ℕ
notes_of vs = map (λ (v : Voice). into_u64_of v.note) (without (λ (v : Voice). v.finished) vs)

abbrev pub iter_active_notes_of : Sampler → ℕ → ℕ → Result ℕ Refusal
iter_active_notes_of s j room = list_counted s j (notes_of (live (channel_at s j))) room

abbrev pub active_notes_after : Sampler → ℕ → List ℕ → List ℕ
active_notes_after s j notes = list_after s j (notes_of (live (channel_at s j))) notes

-- ---- the figures of each voice, as parts of a recording of n samples; `length` is the loop length
unfoldable pub voice_info_of : Float → Float → Voice → VoiceInfo
voice_info_of length n v = record {
  start = v.loop_start_percent;
  end = rem binary32 (add binary32 v.loop_start_percent (div binary32 length n)) one32;
  pos = div binary32 (as_float v.last_sample_index) n;
}

abbrev pub no_info : VoiceInfo
no_info = record { start = zero32; end = zero32; pos = zero32 }

abbrev pub no_infos : List VoiceInfo
no_infos = replicate 32 no_info

abbrev pub infos_with : List VoiceInfo → ℕ → VoiceInfos
infos_with infos count = record { infos = infos; count = count }

-- of the voice's phrase on channel c; the loop length is worked out from channel a's phrase of that number
unfoldable pub figures_of : Params → Channel → Channel → Voice → VoiceInfo
figures_of p a c v =
    voice_info_of (loop_length_of p (phrase_at a v.phrase).length) (as_float (phrase_at c v.phrase).length) v

-- as many as the channel has voices, in the front of 32
unfoldable pub voice_infos_of : Params → Channel → Channel → VoiceInfos
voice_infos_of p a c = infos_with (in_front (map (figures_of p a c) (live c)) no_infos) c.count

-- "Voice info uses the voice's phrase number, on channel 0 and on the asked channel" (request 11/12)
unfoldable pub get_voice_info_of : Sampler → ℕ → Params → ℕ → Result VoiceInfos Refusal
get_voice_info_of s j p room =
    question_rows s j
    (row (beyond_limits p) BeyondLimits
    (row (ltb room (channel_at s j).count) ShortList (Ok (voice_infos_of p (channel_at s 0) (channel_at s j)))))

abbrev pub info_number : Sampler → ℕ → Params → ℕ → ℕ
info_number s j p room = code_of (get_voice_info_of s j p room)
