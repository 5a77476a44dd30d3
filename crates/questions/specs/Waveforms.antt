-- The waveform summary of channel 0's recording (request 1/12; get_waveform_summary of the Rust's sampler.rs): for each
-- column the root of its samples' mean square, and the smallest and the largest of these. All of it is binary32
-- arithmetic, operation by operation. Definitions only. Assumes nothing.
use Rattle.std.specs.Prelude.{ℕ, zero, suc, ◌+◌, ◌-◌, Bool, not, cond, List, [], ◌∷◌, map, ltb, length, take, drop, Float, Result, Ok, is_ok}
use Rattle.std.specs.Float.{binary32}
use Rattle.std.specs.Float.Ieee.{add, mul, div}
use Rattle.binary32.specs.Leaves.{as_float, as_whole, floor_of, float_of, min_of, max_of, root_of, zero32}
use Rattle.std.specs.List.{fold}
use Rattle.refusals.specs.declared.Refusal.{Refusal}
use Rattle.refusals.specs.declared.Refusal.TheVariants.{ShortList, Broken, TooManyColumns}
use Rattle.refusals.specs.Refusals.{code_of, row}
use Rattle.channel.specs.Channels.{recording_of}
use Rattle.sampler.specs.declared.Sampler.{Sampler}
use Rattle.sampler.specs.Refusals.{channel_at, good_with}
use Rattle.sampler.specs.Samplers.{part_of}
use Rattle.questions.specs.Questions.{in_front}
use Rattle.questions.specs.declared.WaveformSummary.{WaveformSummary}

-- ---- the cuts

-- how many samples a column has, as a float: n samples in so many columns
abbrev pub column_width : ℕ → ℕ → Float
column_width n columns = div binary32 (as_float n) (as_float columns)

-- the sample that column i begins with
unfoldable pub cut_of : ℕ → ℕ → ℕ → ℕ
cut_of n columns i = as_whole 64 (floor_of (mul binary32 (as_float i) (column_width n columns)))

-- ---- the columns

-- the sum of the squares, from the left and from +0
abbrev pub with_square : Float → Float → Float
with_square total x = add binary32 total (mul binary32 x x)

abbrev pub squares_of : List Float → Float
squares_of xs = fold with_square zero32 xs

-- the root of the mean square, which is NaN for no samples, or where one is NaN
unfoldable pub column_of : List Float → Float
column_of xs = root_of (div binary32 (squares_of xs) (as_float (length xs)))

-- column i of a recording, given as bit patterns
unfoldable pub column_at : ℕ → List ℕ → ℕ → Float
column_at columns recording i =
    let start = cut_of (length recording) columns i in
    let end = cut_of (length recording) columns (i + 1) in
    column_of (map float_of (take (end - start) (drop start recording)))

-- so many from column i on
unfoldable pub columns_from : ℕ → List ℕ → ℕ → ℕ → List Float
columns_from columns recording zero i = []
columns_from columns recording (suc count) i =
    column_at columns recording i ∷ columns_from columns recording count (i + 1)

abbrev pub columns_of : ℕ → List ℕ → List Float
columns_of columns recording = columns_from columns recording columns 0

-- ---- the extremes start at +0, and a NaN yields to the other
abbrev pub smallest_of : List Float → Float
smallest_of values = fold min_of zero32 values

abbrev pub largest_of : List Float → Float
largest_of values = fold max_of zero32 values

abbrev pub summary_with : Float → Float → WaveformSummary
summary_with smallest largest = record { smallest = smallest; largest = largest }

abbrev pub summary_of : List Float → WaveformSummary
summary_of values = summary_with (smallest_of values) (largest_of values)

-- ---- the question
abbrev pub most_columns : ℕ
most_columns = 4096

-- rows 9, 11 and 8, with room for so many values
abbrev pub waveform_rows : {A : Type 0} → Bool → ℕ → ℕ → Result A Refusal → Result A Refusal
waveform_rows good columns room rest =
    row (not good) Broken (row (ltb most_columns columns) TooManyColumns (row (ltb room columns) ShortList rest))

-- the lent list afterwards
abbrev pub values_after_by : List Float → List Float → Result (Unit {0}) Refusal → List Float
values_after_by values list done = cond (is_ok done) (in_front values list) list

unfoldable pub waveform_judged : Sampler → ℕ → ℕ → ℕ → Result (Unit {0}) Refusal
waveform_judged s columns room size = waveform_rows (good_with s size) columns room (Ok tt)

abbrev pub waveform_number : Sampler → ℕ → ℕ → ℕ → ℕ
waveform_number s columns room size = code_of (waveform_judged s columns room size)

-- the values of channel 0's recording
abbrev pub waveform_of : Sampler → ℕ → List ℕ → List Float
waveform_of s columns m = columns_of columns (recording_of (channel_at s 0) (part_of s 0 m))

unfoldable pub get_waveform_summary_of : Sampler → ℕ → ℕ → List ℕ → Result WaveformSummary Refusal
get_waveform_summary_of s columns room m =
    waveform_rows (good_with s (length m)) columns room (Ok (summary_of (waveform_of s columns m)))

unfoldable pub waveform_after : Sampler → ℕ → List Float → List ℕ → List Float
waveform_after s columns list m =
    values_after_by (waveform_of s columns m) list (waveform_judged s columns (length list) (length m))
