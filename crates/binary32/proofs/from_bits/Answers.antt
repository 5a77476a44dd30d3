-- `binary32::from_bits` meets its contract: the test is that of a NaN pattern (`nan_bits_above`), and such a pattern reads as NaN. Assumes nothing.
use Rattle.std.proofs.Common.{sym, ◌∙◌, le-ltb, lt-ltb}
use lib.Ieee.{binary32, of_bits}
use lib.Ieee.Bits.{nan_bits_above, nan_bits_is}
use Rattle.binary32.proofs.Truth.{no}
use Rattle.binary32.proofs.Nans.{tells_nan}
use Rattle.binary32.proofs.from_bits.Goals as goal

pub float_from_bits-result : goal.float_from_bits-result
float_from_bits-result c = no (nan_bits_above binary32 c.args.pattern ∙ le-ltb _ _ c.if-pattern-gt2139095040.false)

pub returns-then-pattern-gt2139095040 : goal.returns-then-pattern-gt2139095040
returns-then-pattern-gt2139095040 c =
    let p = c.args.pattern in
    c.not_a_number.ensures ∙ sym (tells_nan (of_bits binary32 p) (sym (nan_bits_is binary32 p) ∙ nan_bits_above binary32 p ∙ lt-ltb _ _ c.if-pattern-gt2139095040.true))
