-- What each function of this crate means, from IEEE 754-2019 ("754") and Rust's public documents: the reference's
-- chapter on operator expressions ("numeric cast") and the page of the primitive type f32. A float is the kit's
-- (`lib.Ieee`): `nan`, `inf s`, or `fin s m e`, the number m * 2 ^ e, negative where s is true. There is one `nan`; `≡`
-- on floats is identity, so -0 is not +0. Definitions only.
use Rattle.std.specs.Prelude.{◌≡◌, ℕ, zero, suc, ◌+◌, ◌-◌, ◌*◌, ◌/◌, ◌^◌, Bool, true, false, cond, not, ◌||◌, T, pos, from_bits, is_nan, nat_le, to_bits, Float}
use Rattle.std.specs.Bool.{beq}
use Rattle.std.specs.Float.{nan, inf, fin, binary32}
use Rattle.std.specs.Float.Ieee.{up, down, size, round, lt, le, eq, of_int, to_unsigned}
use Rattle.std.specs.Float.Ieee.Nearest.{closest}

abbrev pub zero32 : Float
zero32 = fin false 0 (pos 0)

abbrev pub one32 : Float
one32 = fin false 1 (pos 0)

-- A whole number of any width `as f32`: the nearest float, at a tie the one whose last digit is even (754, 5.4.1,
-- convertFromInt; reference, int-to-float).
abbrev pub as_float : ℕ → Float
as_float n = of_int binary32 (pos n)

-- A whole number over 2 ^ drop as the nearest whole number, at a tie the even one: what `round` does to the digits that
-- it drops.
abbrev pub shifted_of : ℕ → ℕ → ℕ
shifted_of n drop = closest n (2 ^ drop)

-- A float `as` an unsigned type of w bits: the fraction dropped, the nearest end of the range beyond it, and 0 for NaN
-- (reference, float-to-int).
abbrev pub as_whole : ℕ → Float → ℕ
as_whole w x = to_unsigned w x

-- The largest whole number that is not above x, with x's sign where it is zero (754, 5.9,
-- roundToIntegralTowardNegative; f32::floor). For a negative x of size n / d that is the size rounded up. `floor-exact`
-- says that `round` changes nothing here.
unfoldable pub floor_of : Float → Float
floor_of nan = nan
floor_of (inf s) = inf s
floor_of (fin false m e) = round binary32 false (m * up e / down e) 1
floor_of (fin true m e) = round binary32 true ((m * up e + (down e - 1)) / down e) 1

-- The smaller and the larger of two, where a NaN yields the other (f32::min, f32::max; 754, 9.6, minimumNumber and
-- maximumNumber). At equal values, zeros of either sign among them, it is the first: Rust leaves that choice open.
unfoldable pub min_of : Float → Float → Float
min_of a b = cond (is_nan a) b (cond (lt b a) b a)

unfoldable pub max_of : Float → Float → Float
max_of a b = cond (is_nan a) b (cond (lt a b) b a)

-- The value with its sign cleared (754, 5.5.1, abs; f32::abs).
abbrev pub abs_of : Float → Float
abs_of nan = nan
abs_of (inf s) = inf false
abs_of (fin s m e) = fin false m e

-- The sign bit (754, 5.7.2, isSignMinus). A NaN's is never asked for.
abbrev pub sign_of : Float → Bool
sign_of nan = false
sign_of (inf s) = s
sign_of (fin s m e) = s

-- Document 01's crossing, from the last value to this one: a NaN on either side, a change of sign bit, or this value
-- equal to 0. The Rust compares f32::signum, which is the sign bit as 1 or -1, and NaN at a NaN, and NaN differs from
-- all.
unfoldable pub crossing_of : Float → Float → Bool
crossing_of value last = is_nan value || is_nan last || not (beq (sign_of value) (sign_of last))
    || eq value (fin false 0 (pos 0))

-- What a value v that may be left undone promises: an answer that isn't below 0, or NaN, is v.
abbrev pub OrLess : Float → Float → Type 0
OrLess v r = T (le zero32 r) → r ≡ v

-- The bit pattern of a value, 7FC00000 for NaN, and the value of a bit pattern, NaN for every NaN pattern (754, 3.4;
-- f32::to_bits, f32::from_bits).
abbrev pub bits_of : Float → ℕ
bits_of x = to_bits binary32 x

abbrev pub float_of : ℕ → Float
float_of b = from_bits binary32 b

-- The largest q with q * q ≤ n, for an n of at most k binary digits: but for its last digit it is that of n / 4, and
-- its last digit is 1 where the square is still at most n.
abbrev pub with_digit : ℕ → ℕ → ℕ
with_digit n r = cond (nat_le (suc r * suc r) n) (suc r) r

unfoldable pub root_below : ℕ → ℕ → ℕ
root_below zero n = 0
root_below (suc k) n = with_digit n (2 * root_below k (n / 4))

-- The largest q with q * q ≤ n (`isqrt-root`).
unfoldable pub isqrt : ℕ → ℕ
isqrt n = root_below (size n) n

-- The float nearest to the root of x (754, 5.4.1, squareRoot; f32::sqrt). NaN, +inf and zeros of either sign are their
-- own roots, and what lies below zero has none. In units of 2 ^ -149, the smallest float, the root of x is that of
-- x * 2 ^ 298, a whole number. Of its whole part, 75 digits or more, `round` keeps 24; that no digit after it matters,
-- and no other float is as near, is `Roots.nearest`.
unfoldable pub root_of : Float → Float
root_of nan = nan
root_of (inf false) = inf false
root_of (inf true) = nan
root_of (fin true zero e) = fin true zero e
root_of (fin true (suc m) e) = nan
root_of (fin false m e) = round binary32 false (isqrt (m * up e * 2 ^ 298 / down e)) (2 ^ 149)
