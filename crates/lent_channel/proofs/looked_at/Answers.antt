-- `looked_at` meets its contract: its test is that of `looked_at`. Assumes nothing.
use borrow.Author.Tests.{eq-eqb, ne_eqb}
use Rattle.lent_channel.proofs.looked_at.Goals as goal

pub returns-then-k-head : goal.returns-then-k-head
returns-then-k-head c = simp (eq-eqb _ _ c.if-k-head.true, c.recording.ensures)

pub returns : goal.returns
returns c = simp (ne_eqb _ _ c.if-k-head.false)
