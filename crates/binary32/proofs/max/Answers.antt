-- `binary32::max` meets its contract: its tests are those of `max_of`, in another order, since no NaN is below anything. Assumes nothing.
use lib.Ieee.{is_nan}
use Rattle.binary32.specs.Leaves.{max_of}
use Rattle.binary32.proofs.Nans.{is_nan_lem, no_nan, below_no_nan}
use Rattle.binary32.proofs.max.Goals as goal

pub returns-then-a-b : goal.returns-then-a-b
unfolding max_of
returns-then-a-b c = simp (below_no_nan c.args.a c.args.b c.if-a-b.true, c.if-a-b.true)

pub returns-then-a : goal.returns-then-a
unfolding max_of is_nan
returns-then-a c = simp (is_nan_lem c.args.a c.if-a.true)

pub returns-else-a : goal.returns-else-a
unfolding max_of
returns-else-a c = simp (no_nan c.args.a c.if-a.false, c.if-a-b.false)
