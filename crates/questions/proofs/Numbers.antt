-- The number of each answer is what its rows of document 01's table give: what is answered where they are passed has none. Assumes nothing.
use mathlib.Core.Path.{◌≡◌, refl}
use mathlib.Core.Bool.{Bool, true, false, not}
use mathlib.Core.List.{List}
use Prim.Native.Nat.{ℕ}
use lib.Dec.{ltb}
use lib.ListN.{length}
use Rattle.std.specs.Prelude.{Result, Ok}
use Rattle.refusals.specs.declared.Refusal.{Refusal}
use Rattle.refusals.specs.declared.Refusal.TheVariants.{NoChannel, ShortList, Broken, TooManyColumns}
use Rattle.refusals.specs.Refusals.{code_of, row}
use Rattle.common_types.specs.declared.Params.{Params}
use Rattle.sampler.specs.declared.Sampler.{Sampler}
use Rattle.sampler.specs.Refusals.{good_sampler, good_with, no_channel, channel_judged, channel_number}
use Rattle.questions.specs.Waveforms.{waveform_rows, waveform_judged, waveform_number, get_waveform_summary_of}
use Rattle.questions.specs.Questions.{
  get_frames_processed_of,
  get_data_len_of,
  is_recording_of,
  get_last_recorded_offset_of,
  list_number,
  list_counted,
  info_number,
  get_voice_info_of,
}

module _ {A : Type 0} (x : A) where
  two_rows : (a b : Bool) → code_of (row a Broken (row b NoChannel (Ok x))) ≡ code_of {A = Unit {0}} (row a Broken (row b NoChannel (Ok tt)))
  two_rows true b = refl
  two_rows false true = refl
  two_rows false false = refl

  three_rows : (a b c : Bool) → code_of (row a Broken (row b TooManyColumns (row c ShortList (Ok x)))) ≡ code_of {A = Unit {0}} (row a Broken (row b TooManyColumns (row c ShortList (Ok tt))))
  three_rows true b c = refl
  three_rows false true c = refl
  three_rows false false true = refl
  three_rows false false false = refl

module _ (s : Sampler) (j : ℕ) where
  pub frames_number : code_of (get_frames_processed_of s j) ≡ channel_number s j
  unfolding channel_judged
  frames_number = two_rows _ (not (good_sampler s)) (no_channel s j)

  pub data_len_number : code_of (get_data_len_of s j) ≡ channel_number s j
  unfolding channel_judged
  data_len_number = two_rows _ (not (good_sampler s)) (no_channel s j)

  pub recording_number : code_of (is_recording_of s j) ≡ channel_number s j
  unfolding channel_judged
  recording_number = two_rows _ (not (good_sampler s)) (no_channel s j)

  pub offset_number_lem : code_of (get_last_recorded_offset_of s j) ≡ channel_number s j
  unfolding channel_judged
  offset_number_lem = two_rows _ (not (good_sampler s)) (no_channel s j)

pub summary_number : (s : Sampler) (columns room : ℕ) (m : List ℕ) → code_of (get_waveform_summary_of s columns room m) ≡ waveform_number s columns room (length m)
unfolding get_waveform_summary_of waveform_judged
summary_number s columns room m = three_rows _ (not (good_with s (length m))) (ltb 4096 columns) (ltb room columns)
