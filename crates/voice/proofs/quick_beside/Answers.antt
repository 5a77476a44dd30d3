-- `quick_beside` meets its contract, by that of `quick_next`. Assumes nothing.
use borrow.Author.Tests.{not-true, not-false}
use Rattle.voice.proofs.quick_beside.Goals as goal

pub returns-then-not-t : goal.returns-then-not-t
returns-then-not-t c small speed same = simp (not-true c.args.t.interpolates c.if-not-t.true)

pub returns : goal.returns
returns c small speed same = simp (not-false c.args.t.interpolates c.if-not-t.false) (c.quick_next.ensures small speed same)
