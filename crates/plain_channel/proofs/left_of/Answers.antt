-- `left_of` meets its contract: its tests are those of `left_of`. Assumes nothing.
use borrow.Author.Tests.{lt-ltb, le-ltb, ne_eqb}
use Rattle.plain_channel.proofs.left_of.Goals as goal

pub returns-then-n-gt1 : goal.returns-then-n-gt1
returns-then-n-gt1 c = simp (c.if-eased-eq0.true, c.if-togo-eq0.true, lt-ltb _ _ c.if-n-gt1.true)

pub returns-else-n-gt1 : goal.returns-else-n-gt1
returns-else-n-gt1 c = simp (c.if-eased-eq0.true, c.if-togo-eq0.true, le-ltb _ _ c.if-n-gt1.false)

pub returns-else-togo-eq0 : goal.returns-else-togo-eq0
returns-else-togo-eq0 c = simp (c.if-eased-eq0.true, ne_eqb _ _ c.if-togo-eq0.false)

pub returns-else-eased-eq0 : goal.returns-else-eased-eq0
returns-else-eased-eq0 c = simp (ne_eqb _ _ c.if-eased-eq0.false)
