-- The lines of document 01's listing, as bytes. Definitions only.
use Rattle.std.specs.Prelude.{ℕ, zero, suc, ◌+◌, ◌/◌, ◌%◌, ◌^◌, cond, List, [], ◌∷◌, ◌++◌, ltb, Float}
use Rattle.std.specs.Float.Ieee.{is_nan}
use Rattle.binary32.specs.Leaves.{bits_of}
use Rattle.decimal.specs.Decimal.{decimal}
use Rattle.decimal.specs.Lines.{bytes}

-- the byte of an upper-case hexadecimal digit: 48 is `0`, 65 is `A`
unfoldable pub hex_digit : ℕ → ℕ
hex_digit d = cond (ltb d 10) (48 + d) (55 + d)

-- the last k hexadecimal digits of n
unfoldable pub hex_digits : ℕ → ℕ → List ℕ
hex_digits zero n = []
hex_digits (suc k) n = hex_digit (n / 16 ^ k % 16) ∷ hex_digits k n

-- an output: 8 digits, or `NAN`
unfoldable pub output_text : Float → List ℕ
output_text x = cond (is_nan x) (bytes "NAN") (hex_digits 8 (bits_of x))

abbrev pub space : List ℕ
space = 32 ∷ []

abbrev pub newline : List ℕ
newline = 10 ∷ []

-- each output with a space before it
unfoldable pub outputs_of : List Float → List ℕ
outputs_of [] = []
outputs_of (x ∷ xs) = space ++ output_text x ++ outputs_of xs

-- `E kind answer`
unfoldable pub answer_line : ℕ → ℕ → List ℕ
answer_line kind number = bytes "E " ++ decimal kind ++ space ++ decimal number ++ newline

-- `F`, the clock, the outputs, the voice count
unfoldable pub frame_line : ℕ → List Float → ℕ → List ℕ
frame_line clock outputs count = bytes "F " ++ decimal clock ++ outputs_of outputs ++ space ++ decimal count ++ newline

-- `X` and the offset
unfoldable pub bad_line : ℕ → List ℕ
bad_line offset = bytes "X " ++ decimal offset ++ newline
