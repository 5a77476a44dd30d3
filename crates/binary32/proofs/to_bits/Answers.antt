-- `binary32::to_bits` meets its contract: a NaN has the pattern that `to_bits` gives it, and any other value has one of its own. Assumes nothing.
use Rattle.std.proofs.Common.{sym, ap}
use lib.Ieee.{binary32, to_bits}
use Rattle.binary32.proofs.Truth.{no}
use Rattle.binary32.proofs.Nans.{is_nan_lem, no_nan}
use Rattle.binary32.proofs.to_bits.Goals as goal

pub float_to_bits-result : goal.float_to_bits-result
float_to_bits-result c = no (no_nan c.args.x c.if-x.false)

pub returns-then-x : goal.returns-then-x
unfolding to_bits
returns-then-x c = sym (ap (to_bits binary32) (is_nan_lem c.args.x c.if-x.true))
