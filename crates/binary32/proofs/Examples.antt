-- Values at which a wrong leaf would show. Each holds by computation. Assumes nothing.
use Rattle.std.proofs.Common.{◌≡◌, ◌+◌, ◌-◌, ◌^◌, true, false, pos, negsuc, refl}
use lib.Ieee.{nan, inf, fin, binary32, rem, lt, eq, is_nan, of_bits, of_int, size, round, to_unsigned}
use Rattle.binary32.specs.Leaves.{as_float, as_whole, floor_of, min_of, max_of, abs_of, crossing_of, float_of, root_below, isqrt, root_of}

-- rounded first to 24 digits and then again, this would be 2 ^ 60
once : as_float (2 ^ 60 + 2 ^ 36 + 1) ≡ fin false 8388609 (pos 37)
unfolding of_int
once = refl

-- -0.3 lies below zero, and so does its floor
floor_negative : floor_of (float_of 0xbe99_999a) ≡ fin true 1 (pos 0)
unfolding floor_of of_bits round
floor_negative = refl

floor_minus_zero : floor_of (fin true 0 (pos 0)) ≡ fin true 0 (pos 0)
unfolding floor_of round
floor_minus_zero = refl

least_of_nan : (min_of nan (fin false 1 (pos 0)) ≡ fin false 1 (pos 0)) × (min_of (fin false 1 (pos 0)) nan ≡ fin false 1 (pos 0))
unfolding min_of is_nan lt
least_of_nan = (refl, refl)

-- at equal zeros the first comes back
first_zero : (min_of (fin true 0 (pos 0)) (fin false 0 (pos 0)) ≡ fin true 0 (pos 0)) × (max_of (fin true 0 (pos 0)) (fin false 0 (pos 0)) ≡ fin true 0 (pos 0))
unfolding min_of max_of is_nan lt
first_zero = (refl, refl)

size_of_minus_zero : abs_of (fin true 0 (pos 0)) ≡ fin false 0 (pos 0)
size_of_minus_zero = refl

-- from +0 to 1 the sign bit stays and this value is not 0; from -0 it changes
from_zero : (crossing_of (fin false 1 (pos 0)) (fin false 0 (pos 0)) ≡ false) × (crossing_of (fin false 1 (pos 0)) (fin true 0 (pos 0)) ≡ true)
unfolding crossing_of is_nan eq
from_zero = (refl, refl)

ends : (as_whole 64 (inf false) ≡ 18446744073709551615) × (as_whole 32 (inf true) ≡ 0) × (as_whole 32 nan ≡ 0)
unfolding to_unsigned
ends = (refl, refl, refl)

-- on either side of a square
whole_roots : (isqrt 0 ≡ 0) × (isqrt 1 ≡ 1) × (isqrt 3 ≡ 1) × (isqrt 4 ≡ 2) × (isqrt 8 ≡ 2) × (isqrt 9 ≡ 3) × (isqrt (2 ^ 50 - 1) ≡ 2 ^ 25 - 1)
unfolding isqrt root_below size
whole_roots = (refl, refl, refl, refl, refl, refl, refl)

-- what is its own root, and what has none: -inf, -1, and minus the smallest float
roots_of_edges : (root_of nan ≡ nan) × (root_of (inf false) ≡ inf false) × (root_of (fin false 0 (pos 0)) ≡ fin false 0 (pos 0)) × (root_of (fin true 0 (pos 0)) ≡ fin true 0 (pos 0))
    × (root_of (inf true) ≡ nan) × (root_of (float_of 0xbf80_0000) ≡ nan) × (root_of (float_of 0x8000_0001) ≡ nan)
unfolding root_of isqrt root_below size round of_bits
roots_of_edges = (refl, refl, refl, refl, refl, refl, refl)

-- 1, 2.25, 2, 3: the root of 2 is rounded down, that of 3 up
roots_of_few : (root_of (float_of 0x3f80_0000) ≡ float_of 0x3f80_0000) × (root_of (float_of 0x4010_0000) ≡ float_of 0x3fc0_0000) × (root_of (float_of 0x4000_0000) ≡ float_of 0x3fb5_04f3) × (root_of (float_of 0x4040_0000) ≡ float_of 0x3fdd_b3d7)
unfolding root_of isqrt root_below size round of_bits
roots_of_few = (refl, refl, refl, refl)

-- the smallest float, the largest subnormal one, the smallest normal one and the largest: the second and the last are a carry away from a power of two
roots_of_ends : (root_of (float_of 1) ≡ float_of 0x1a35_04f3) × (root_of (float_of 0x007f_ffff) ≡ float_of 0x1fff_ffff) × (root_of (float_of 0x0080_0000) ≡ float_of 0x2000_0000) × (root_of (float_of 0x7f7f_ffff) ≡ float_of 0x5f7f_ffff)
unfolding root_of isqrt root_below size round of_bits
roots_of_ends = (refl, refl, refl, refl)

-- what `remainder` promises: the dividend's sign, at 0 too; the largest float by the smallest, and by one next to the smallest normal one; a divisor of 0, and an infinite one
remainders : (rem binary32 (fin true 9 (pos 0)) (fin true 3 (pos 0)) ≡ fin true 0 (pos 0)) × (rem binary32 (fin true 11 (negsuc 0)) (fin false 1 (pos 1)) ≡ fin true 3 (negsuc 0))
    × (rem binary32 (float_of 0x7f7f_ffff) (float_of 1) ≡ fin false 0 (pos 0)) × (rem binary32 (float_of 0x7f7f_ffff) (float_of 0x0080_0001) ≡ float_of 0x3)
    × (rem binary32 (fin false 1 (pos 0)) (fin true 0 (pos 0)) ≡ nan) × (rem binary32 (fin true 1 (pos 0)) (inf true) ≡ fin true 1 (pos 0))
unfolding rem size round of_bits
remainders = (refl, refl, refl, refl, refl, refl)
