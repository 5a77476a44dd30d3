-- The value of a number in a WAVE file, as a float of 32 bits (`lib.Ieee`), rounded once: to the nearest, a tie to the
-- even one. Definitions only.
use Rattle.std.specs.Prelude.{Bool, cond, ℕ, ◌-◌, ◌*◌, ◌^◌, leb, eqb, Float}
use Rattle.std.specs.Float.{nan, inf, fin, binary32, binary64}
use Rattle.std.specs.Float.Ieee.{up, down, round, of_bits, to_bits}

-- ---- a whole number of so many bits in two's complement: its sign, its size, and it over 2 ^ (bits - 1)

abbrev pub negative : ℕ → ℕ → Bool
negative bits n = leb (2 ^ (bits - 1)) n

abbrev pub magnitude : ℕ → ℕ → ℕ
magnitude bits n = cond (negative bits n) (2 ^ bits - n) n

abbrev pub whole_of : ℕ → ℕ → Float
whole_of bits n = round binary32 (negative bits n) (magnitude bits n) (2 ^ (bits - 1))

-- ---- a float of any format: NaN, infinities and the signs of zeros are kept
abbrev pub narrow_of : Float → Float
narrow_of nan = nan
narrow_of (inf s) = inf s
narrow_of (fin s m e) = round binary32 s (m * up e) (down e)

-- ---- the word of a number, by the file's tag (1 for whole numbers, 3 for floats) and its bits: a float of 32 bits keeps
-- its own
unfoldable pub number_word : ℕ → ℕ → ℕ → ℕ
number_word tag bits n =
    cond (eqb tag 1) (to_bits binary32 (whole_of bits n))
    (cond (eqb bits 64) (to_bits binary32 (narrow_of (of_bits binary64 n))) n)
