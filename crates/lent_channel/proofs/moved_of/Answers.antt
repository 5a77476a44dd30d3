-- `moved_of` meets its contract: its test is that of `moved_by`. Assumes nothing.
use borrow.Author.Tests.{lt-ltb, le-ltb}
use Rattle.lent_channel.specs.Turns.{moved_by}
use Rattle.lent_channel.proofs.moved_of.Goals as goal

pub returns-then-g : goal.returns-then-g
unfolding moved_by
returns-then-g c = simp (lt-ltb _ _ c.if-g.true)

pub returns-else-g : goal.returns-else-g
unfolding moved_by
returns-else-g c = simp (le-ltb _ _ c.if-g.false)
