-- `hex` meets its contract: each digit in turn. Assumes nothing.
use native.Mathlib.Nat.{div-one}
use Rattle.listing.specs.Lines.{hex_digits}
use Rattle.listing.proofs.texts.hex.Goals as goal

pub returns : goal.returns
unfolding hex_digits
returns c = simp (c.hex_digit-8.ensures, c.hex_digit-7.ensures, c.hex_digit-6.ensures, c.hex_digit-5.ensures, c.hex_digit-4.ensures, c.hex_digit-3.ensures, c.hex_digit-2.ensures, c.hex_digit.ensures, div-one)
