-- Cuts, columns and extremes at their edges, computed. Assumes nothing.
use mathlib.Core.Path.{◌≡◌, refl, ap, ◌∙◌}
use mathlib.Core.Bool.{false}
use mathlib.Core.List.{[], ◌∷◌}
use lib.IntN.{pos}
use lib.Ieee.{Float, nan, inf, fin, size, round, add, mul, div, lt, is_nan, of_int, to_unsigned, of_bits, of_fields}
use Rattle.binary32.specs.Leaves.{as_float, float_of, floor_of, max_of, root_below, isqrt, root_of, zero32, one32}
use Rattle.std.specs.List.{fold}
use Rattle.questions.specs.Waveforms.{cut_of, with_square, squares_of, column_of, column_at, largest_of}

-- ---- cuts are of floats, not of whole numbers: 23 * 14 / 46 is 7
inner_cut : cut_of 14 46 23 ≡ 6
unfolding cut_of floor_of mul div of_int to_unsigned
inner_cut = refl

-- the last sample may go unseen
last_cut : cut_of 31 7 7 ≡ 30
unfolding cut_of floor_of mul div of_int to_unsigned
last_cut = refl

only_cut : cut_of 1 41 41 ≡ 0
unfolding cut_of floor_of mul div of_int to_unsigned
only_cut = refl

-- ---- from the left: 1 is too small for 2 ^ 24; from the right two of them would count
first_square : with_square zero32 (fin false 1 (pos 12)) ≡ fin false 1 (pos 24)
unfolding add mul
first_square = refl

too_small_to_add : with_square (fin false 1 (pos 24)) one32 ≡ fin false 1 (pos 24)
unfolding add mul
too_small_to_add = refl

left-to-right : squares_of (fin false 1 (pos 12) ∷ one32 ∷ one32 ∷ []) ≡ fin false 1 (pos 24)
left-to-right = ap (λ (t : Float). fold with_square t (one32 ∷ one32 ∷ [])) first_square ∙ ap (λ (t : Float). fold with_square t (one32 ∷ [])) too_small_to_add ∙ too_small_to_add

-- ---- the root of 25 / 2
mean_of_two : column_of (as_float 3 ∷ as_float 4 ∷ []) ≡ float_of 0x4062_4630
unfolding column_of add mul div of_int size round root_below isqrt root_of of_bits of_fields
mean_of_two = refl

-- and of 6 / 3: the root of 6 over the root of 3 is 3FB504F4
mean_of_three : column_of (as_float 1 ∷ as_float 1 ∷ as_float 2 ∷ []) ≡ float_of 0x3fb5_04f3
unfolding column_of add mul div of_int size round root_below isqrt root_of of_bits of_fields
mean_of_three = refl

no_samples_lem : column_of [] ≡ nan
unfolding column_of div of_int root_of
no_samples_lem = refl

a_nan : column_of (one32 ∷ nan ∷ one32 ∷ []) ≡ nan
unfolding column_of add mul div of_int root_of
a_nan = refl

-- 1e30, whose square is too large, and 1e-30, whose square is too small
too_large : column_of (float_of 0x7149_f2ca ∷ []) ≡ inf false
unfolding column_of add mul div of_int root_of of_bits of_fields
too_large = refl

too_small : column_of (float_of 0x0da2_4260 ∷ []) ≡ zero32
unfolding column_of add mul div of_int size round root_below isqrt root_of of_bits of_fields
too_small = refl

-- ---- a column of a recording: the samples from its cut to the next, and none before or after
middle_column : column_at 3 (0x3f80_0000 ∷ 0x3f80_0000 ∷ 0x4000_0000 ∷ 0x4000_0000 ∷ 0x4080_0000 ∷ 0x4080_0000 ∷ []) 1 ≡ as_float 2
unfolding column_at cut_of column_of floor_of add mul div of_int to_unsigned size round root_below isqrt root_of of_bits of_fields
middle_column = refl

-- ---- a NaN doesn't count, wherever it stands
largest_of_some : largest_of (nan ∷ one32 ∷ nan ∷ []) ≡ one32
unfolding max_of is_nan lt
largest_of_some = refl
