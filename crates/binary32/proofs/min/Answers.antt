-- `binary32::min` meets its contract: its tests are those of `min_of`. Assumes nothing.
use lib.Ieee.{is_nan}
use Rattle.binary32.specs.Leaves.{min_of}
use Rattle.binary32.proofs.Nans.{is_nan_lem, no_nan}
use Rattle.binary32.proofs.min.Goals as goal

pub returns-then-a : goal.returns-then-a
unfolding min_of is_nan
returns-then-a c = simp (is_nan_lem c.args.a c.if-a.true)

pub returns-then-b-a : goal.returns-then-b-a
unfolding min_of
returns-then-b-a c = simp (no_nan c.args.a c.if-a.false, c.if-b-a.true)

pub returns-else-b-a : goal.returns-else-b-a
unfolding min_of
returns-else-b-a c = simp (no_nan c.args.a c.if-a.false, c.if-b-a.false)
