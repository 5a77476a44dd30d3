-- `stretch_of` meets its contract: its test is that of `stretch_of`. Assumes nothing.
use borrow.Author.Tests.{lt-ltb, le-ltb}
use Rattle.plain_channel.proofs.stretch_of.Goals as goal

pub returns-then-togo-lt-STRETCH : goal.returns-then-togo-lt-STRETCH
returns-then-togo-lt-STRETCH c = simp (lt-ltb _ _ c.if-togo-lt-STRETCH.true)

pub returns-else-togo-lt-STRETCH : goal.returns-else-togo-lt-STRETCH
returns-else-togo-lt-STRETCH c = simp (le-ltb _ _ c.if-togo-lt-STRETCH.false)
