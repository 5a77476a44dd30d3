-- `near_valued` meets its contract: its test is that of `value_at`, and an index and what remains are a position. Assumes nothing.
use borrow.Author.Tests.{not-true, not-false}
use Rattle.clip.specs.Positions.{position_of}
use Rattle.voice.proofs.near_valued.Goals as goal

pub returns-then-not-t : goal.returns-then-not-t
unfolding position_of
returns-then-not-t c some index low = simp (c.recorded-a.ensures, not-true c.args.t.interpolates c.if-not-t.true, index)

pub returns : goal.returns
unfolding position_of
returns c some index low =
    simp (c.between.ensures, c.fraction.ensures some index low, c.recorded.ensures, c.recorded-a.ensures, not-false c.args.t.interpolates c.if-not-t.false, index)
