-- `at_least_one` meets its contract: beside a number one test tells the larger. Assumes nothing.
use mathlib.Core.Path.{sym}
use lib.Ieee.{is_nan, of_bits}
use Rattle.binary32.specs.Leaves.{one32}
use Rattle.binary32.proofs.Truth.{yes, no}
use Rattle.binary32.proofs.Extremes.{max_first, max_second}
use Rattle.common_types.proofs.at_least_one.Goals as goal

pub returns-then-x : goal.returns-then-x
unfolding of_bits
returns-then-x c = sym (max_first c.args.x one32 (yes c.if-x.true))

pub returns-else-x : goal.returns-else-x
unfolding of_bits is_nan
returns-else-x c = sym (max_second c.args.x one32 tt (no c.if-x.false))
