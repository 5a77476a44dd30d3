-- The parameters of a call: what speed and loop length they come to, and row 4 of document 01's table. Definitions
-- only. Assumes nothing.
use Rattle.std.specs.Prelude.{ℕ, Bool, true, false, cond, ◌||◌, ltb, pos, Float}
use Rattle.std.specs.Float.{fin, binary32}
use Rattle.std.specs.Float.Ieee.{mul, div, lt}
use Rattle.binary32.specs.Leaves.{as_float, max_of}
use Rattle.common_types.specs.Times.{samples_per_quarter_note_of, as_samples_of}
use Rattle.common_types.specs.declared.Transport.{Transport}
use Rattle.common_types.specs.declared.Params.{Params}
use Rattle.common_types.specs.declared.Measure.{Measure}
use Rattle.common_types.specs.declared.InitParams.{InitParams}
use Rattle.common_types.specs.declared.LoopMode.TheVariants.{Loop}
use Rattle.common_types.specs.declared.NoteOffBehaviour.TheVariants.{DecayAndZeroCrossing}
use Rattle.common_types.specs.declared.time_value.TimeValue.{TimeValue}
use Rattle.common_types.specs.declared.time_value.TimeValue.TheVariants.{QuarterNotes, Samples, Seconds, Bars}
use Rattle.common_types.specs.declared.time_value.TimeOrRatio.{TimeOrRatio}
use Rattle.common_types.specs.declared.time_value.TimeOrRatio.TheVariants.{Time, Ratio, WholeBars}

-- ---- the Rust's defaults
abbrev pub default_transport : Transport
default_transport =
    record { sample_rate = as_float 44100; tempo = as_float 120; time_sig_numerator = 4; time_sig_denominator = 4 }

abbrev pub default_params : Params
default_params =
    record {
      attack_samples = 100;
      decay_samples = 100;
      transport = default_transport;
      loop_length = Ratio (as_float 1);
      speed = as_float 1;
      reverse_speed = as_float 1;
      volume = as_float 1;
      auto_passthru = true;
      loop_mode = Loop;
      note_off_behavior = DecayAndZeroCrossing;
    }

abbrev pub default_init_params : InitParams
default_init_params = record { auto_passthru = true }

-- ---- speed and length (document 01, module 1)
unfoldable pub speed_of : Params → Float
speed_of p = mul binary32 p.speed p.reverse_speed

-- A length of time in samples, as `loop_length` has it: a bar here is numerator / denominator quarter notes.
unfoldable pub time_length_of : TimeValue → Transport → Float
time_length_of (Samples x) t = x
time_length_of (Seconds x) t = mul binary32 x t.sample_rate
time_length_of (QuarterNotes x) t = mul binary32 x (samples_per_quarter_note_of t)
time_length_of (Bars x) t =
    mul binary32 x
    (div binary32 (mul binary32 (samples_per_quarter_note_of t) (as_float t.time_sig_numerator))
    (as_float t.time_sig_denominator))

-- the float that a length carries
abbrev pub carried : TimeOrRatio → Float
carried (Time (QuarterNotes x)) = x
carried (Time (Samples x)) = x
carried (Time (Seconds x)) = x
carried (Time (Bars x)) = x
carried (Ratio x) = x
carried (WholeBars x) = x

-- a ratio is of the data length n; a whole bar (document 02, 4/12) is numerator * 4 / denominator quarter notes, in the
-- arithmetic of `as_samples`
unfoldable pub length_of : TimeOrRatio → Transport → ℕ → Float
length_of (Time v) t n = time_length_of v t
length_of (Ratio r) t n = mul binary32 (as_float n) r
length_of (WholeBars x) t n = as_samples_of (Bars x) t

-- how the code works it out: from a time, and a yes or no that tells whole bars from those of `loop_length`
abbrev pub time_in : TimeOrRatio → TimeValue
time_in (Time v) = v
time_in (Ratio r) = Samples r
time_in (WholeBars x) = Bars x

abbrev pub is_whole : TimeOrRatio → Bool
is_whole (Time v) = false
is_whole (Ratio r) = false
is_whole (WholeBars x) = true

unfoldable pub worked_of : TimeValue → Bool → Transport → Float
worked_of (Samples x) whole t = time_length_of (Samples x) t
worked_of (Seconds x) whole t = time_length_of (Seconds x) t
worked_of (QuarterNotes x) whole t = time_length_of (QuarterNotes x) t
worked_of (Bars x) whole t = cond whole (as_samples_of (Bars x) t) (time_length_of (Bars x) t)

-- the larger of that and 1; NaN gives 1
unfoldable pub loop_length_of : Params → ℕ → Float
loop_length_of p n = max_of (length_of p.loop_length p.transport n) (fin false 1 (pos 0))

-- what of that asks for no recording (document 02, 11/12: each voice goes by its own phrase): a ratio, or a length
abbrev pub is_ratio : TimeOrRatio → Bool
is_ratio (Time v) = false
is_ratio (Ratio r) = true
is_ratio (WholeBars x) = false

unfoldable pub measure_of : Params → Measure
measure_of p = record {
  value = worked_of (time_in p.loop_length) (is_whole p.loop_length) p.transport;
  by_ratio = is_ratio p.loop_length;
}

-- the loop length that it gives over a recording of that length
unfoldable pub measured_of : Measure → Float → Float
measured_of m length = max_of (cond m.by_ratio (mul binary32 length m.value) m.value) (fin false 1 (pos 0))

-- ---- row 4: attack or decay above its limit, ratio above 1, or a time length worked out above 2 ^ 22.
-- NaN is not above.
unfoldable pub length_beyond : TimeOrRatio → Transport → Bool
length_beyond (Time v) t = lt (fin false 1 (pos 22)) (time_length_of v t)
length_beyond (Ratio r) t = lt (fin false 1 (pos 0)) r
length_beyond (WholeBars x) t = lt (fin false 1 (pos 22)) (as_samples_of (Bars x) t)

unfoldable pub beyond_limits : Params → Bool
beyond_limits p =
    ltb 16777216 p.attack_samples || ltb 16777216 p.decay_samples
    || length_beyond p.loop_length p.transport
