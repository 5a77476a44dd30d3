-- What the questions of a recording see of a record, and what they answer of it: `proofs/Sights` proves that it is what
-- they answer of the record. Definitions only. Assumes nothing.
use Rattle.std.specs.Prelude.{ℕ, ◌*◌, Bool, true, not, cond, ◌&&◌, List, eqb, ltb, leb, length, Float, Option, Result, Ok}
use Rattle.refusals.specs.declared.Refusal.{Refusal}
use Rattle.refusals.specs.declared.Refusal.TheVariants.{NoChannel, Broken}
use Rattle.refusals.specs.Refusals.{row}
use Rattle.recorder.specs.Recording.{last_recorded_offset_of}
use Rattle.recorder.specs.Recording.{is_recording_of as records_of}
use Rattle.recorder.specs.ErrorText.{error_text}
use Rattle.phrases.specs.Phrases.{is_over_by, stored_in}
use Rattle.channel.specs.declared.Head.{Head}
use Rattle.channel.specs.Heads.{recording_in}
use Rattle.sampler.specs.declared.Sampler.{Sampler}
use Rattle.sampler.specs.Refusals.{channel_at, good_sizes, good_sampler}
use Rattle.questions.specs.Questions.{list_counted_by, list_after_by}
use Rattle.questions.specs.Waveforms.{columns_of, waveform_rows, summary_of, values_after_by}
use Rattle.questions.specs.declared.Seen.{Seen}
use Rattle.questions.specs.declared.WaveformSummary.{WaveformSummary}

abbrev pub seen_of : Sampler → Seen
seen_of s = record {
  good = good_sampler s;
  count = s.count;
  capacity = s.capacity;
  first = (channel_at s 0).head;
  second = (channel_at s 1).head;
}

-- past the last channel it is the second's, which no answer shows
unfoldable pub head_in : Seen → ℕ → Head
head_in t j = cond (eqb j 0) t.first t.second

-- `question_rows`
abbrev pub channel_rows : {A : Type 0} → Seen → ℕ → Result A Refusal → Result A Refusal
channel_rows t j rest = row (not t.good) Broken (row (not (ltb j t.count)) NoChannel rest)

abbrev pub frames_in : Seen → ℕ → Result ℕ Refusal
frames_in t j = channel_rows t j (Ok (head_in t j).now)

abbrev pub length_in : Seen → ℕ → Result ℕ Refusal
length_in t j = channel_rows t j (Ok (head_in t j).data_len)

abbrev pub records_in : Seen → ℕ → Result Bool Refusal
records_in t j = channel_rows t j (Ok (records_of (head_in t j).recorder))

abbrev pub offset_in : Seen → ℕ → Result (Option ℕ) Refusal
offset_in t j = channel_rows t j (Ok (last_recorded_offset_of (head_in t j).recorder))

abbrev pub error_in : Seen → ℕ → ℕ → Result ℕ Refusal
error_in t j = list_counted_by (not t.good) (not (ltb j t.count)) (error_text (head_in t j).recorder)

abbrev pub error_after : Seen → ℕ → List ℕ → List ℕ
error_after t j text = list_after_by (error_text (head_in t j).recorder) text (error_in t j (length text))

-- ---- questions of the recordings' samples, which stand in the lent memory

-- a recording stands in its channel's part
abbrev pub in_part : ℕ → Head → Bool
in_part capacity h = is_over_by capacity (recording_in h)

-- what is seen may be of a good record: no recording in use leaves its part. Of a record it is `good_sampler`
unfoldable pub sound_in : Seen → Bool
sound_in t =
    (t.good && good_sizes t.count t.capacity)
    && (in_part t.capacity t.first && cond (eqb t.count 2) (in_part t.capacity t.second) true)

-- and memory of that size is long enough: `good_with`
unfoldable pub good_in : Seen → ℕ → Bool
good_in t size = sound_in t && leb (t.count * t.capacity) size

abbrev pub waveform_judged_in : Seen → ℕ → ℕ → ℕ → Result (Unit {0}) Refusal
waveform_judged_in t columns room size = waveform_rows (good_in t size) columns room (Ok tt)

-- channel 0's part is the front of the memory
abbrev pub values_in : Seen → ℕ → List ℕ → List Float
values_in t columns m = columns_of columns (stored_in (recording_in t.first) m)

abbrev pub waveform_in : Seen → ℕ → ℕ → List ℕ → Result WaveformSummary Refusal
waveform_in t columns room m =
    waveform_rows (good_in t (length m)) columns room (Ok (summary_of (values_in t columns m)))

abbrev pub waveform_left : Seen → ℕ → List Float → List ℕ → List Float
waveform_left t columns list m =
    values_after_by (values_in t columns m) list (waveform_judged_in t columns (length list) (length m))
