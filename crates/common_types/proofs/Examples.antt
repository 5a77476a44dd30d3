-- The edge of row 4, which the defaults are within; whole bars at their edges; and the end of a dial, which is refused.
-- Each holds by computation. Assumes nothing.
use mathlib.Core.Path.{◌≡◌, refl}
use mathlib.Core.Bool.{true, false}
use mathlib.Core.List.{[], ◌∷◌, map}
use Prim.Native.Nat.{ℕ}
use lib.Ieee.{binary32, lt, mul, div, is_nan, of_int, of_bits, to_unsigned}
use Rattle.binary32.specs.Leaves.{as_float, float_of, floor_of, max_of}
use Rattle.common_types.specs.declared.Transport.{Transport}
use Rattle.common_types.specs.declared.Params.{Params}
use Rattle.common_types.specs.declared.LoopMode.TheVariants.{PingPong}
use Rattle.std.specs.Prelude.{Ok, Err}
use Rattle.refusals.specs.declared.Refusal.TheVariants.{BadArgument}
use Rattle.common_types.specs.declared.time_value.TimeOrRatio.TheVariants.{Time, WholeBars}
use Rattle.common_types.specs.declared.time_value.TimeValue.TheVariants.{Samples, Bars}
use Rattle.common_types.specs.Modes.{index_from_f32_of, loop_mode_from_f32_of}
use Rattle.common_types.specs.Times.{quarter_notes_per_bar_of, samples_per_quarter_note_of, samples_per_bar_of, as_samples_of}
use Rattle.common_types.specs.Settings.{default_params, time_length_of, length_of, loop_length_of, length_beyond, beyond_limits}

-- 4194304 samples are within row 4, and 4194304.5 are not
pub row_four_edge : (t : Transport) → (length_beyond (Time (Samples (float_of 0x4a80_0000))) t ≡ false) × (length_beyond (Time (Samples (float_of 0x4a80_0001))) t ≡ true)
unfolding length_beyond time_length_of lt of_bits
row_four_edge t = (refl, refl)

pub defaults_within : beyond_limits default_params ≡ false
unfolding beyond_limits length_beyond lt of_int
defaults_within = refl

-- ---- whole bars (document 02, 4/12)

-- so many, given by their bits, in numerator / denominator, with the other defaults
abbrev bars_in : ℕ → ℕ → ℕ → Params
bars_in numerator denominator bars = record {
  attack_samples = default_params.attack_samples;
  decay_samples = default_params.decay_samples;
  transport = record { sample_rate = as_float 44100; tempo = as_float 120; time_sig_numerator = numerator; time_sig_denominator = denominator };
  loop_length = WholeBars (float_of bars);
  speed = default_params.speed;
  reverse_speed = default_params.reverse_speed;
  volume = default_params.volume;
  auto_passthru = default_params.auto_passthru;
  loop_mode = default_params.loop_mode;
  note_off_behavior = default_params.note_off_behavior;
}

-- whatever a length in bars computes by
barring : Unit {0}
unfolding quarter_notes_per_bar_of samples_per_quarter_note_of samples_per_bar_of as_samples_of time_length_of length_of loop_length_of length_beyond beyond_limits max_of lt mul div is_nan of_int of_bits
barring = tt

-- 47 bars in 4/4 are within row 4, and 48 are not; 423E37C6 bars are 4194304 samples, and the float above is 4194304.5
pub bars_edge : map (λ (bars : ℕ). beyond_limits (bars_in 4 4 bars)) (0x423c_0000 ∷ 0x4240_0000 ∷ 0x423e_37c6 ∷ 0x423e_37c7 ∷ []) ≡ false ∷ true ∷ false ∷ true ∷ []
unfolding barring
bars_edge = refl

pub bars_lengths : (loop_length_of (bars_in 4 4 0x423c_0000) 0 ≡ as_float 4145400) × (loop_length_of (bars_in 4 4 0x423e_37c6) 0 ≡ float_of 0x4a80_0000) × (loop_length_of (bars_in 4 4 0x423e_37c7) 0 ≡ float_of 0x4a80_0001)
unfolding barring
bars_lengths = (refl, refl, refl)

-- with the denominator 0 a bar is infinite, and refused; no bar is NaN and -1 bar is below 1, so both are of length 1,
-- as are bars of 0/0
pub no_denominator : map (λ (bars : ℕ). beyond_limits (bars_in 4 0 bars)) (0x3f80_0000 ∷ 0 ∷ 0xbf80_0000 ∷ []) ≡ true ∷ false ∷ false ∷ []
unfolding barring
no_denominator = refl

pub length_one : (loop_length_of (bars_in 4 4 0) 10 ≡ as_float 1) × (loop_length_of (bars_in 4 0 0) 10 ≡ as_float 1) × (loop_length_of (bars_in 4 0 0xbf80_0000) 10 ≡ as_float 1) × (loop_length_of (bars_in 0 0 0x3f80_0000) 10 ≡ as_float 1)
unfolding barring
length_one = (refl, refl, refl, refl)

-- a whole bar of 3/5 is 52920.004 samples, and four times a bar of the Rust's `loop_length` is 52920
pub not_four_times : (loop_length_of (bars_in 3 5 0x3f80_0000) 0 ≡ float_of 0x474e_b801) × (mul binary32 (as_float 4) (time_length_of (Bars (as_float 1)) (bars_in 3 5 0).transport) ≡ as_float 52920)
unfolding barring
not_four_times = (refl, refl)

-- ---- a dial: 1 reaches 3, and the float below it does not
pub dial_end : (loop_mode_from_f32_of (float_of 0x3f80_0000) ≡ Err BadArgument) × (loop_mode_from_f32_of (float_of 0x3f7f_ffff) ≡ Ok PingPong)
unfolding index_from_f32_of floor_of mul of_bits of_int to_unsigned
dial_end = (refl, refl)
