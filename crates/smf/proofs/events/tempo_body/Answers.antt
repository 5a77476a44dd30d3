-- `tempo_body` meets its contract. Assumes nothing.
use borrow.Author.Tests.{lt-ltb, le-ltb, le-leb, lt-leb}
use Rattle.smf.specs.Events.{tempo_of}
use Rattle.smf.proofs.events.tempo_body.Goals as goal

pub returns-then-size-lt3 : goal.returns-then-size-lt3
unfolding tempo_of
returns-then-size-lt3 c = simp (lt-ltb _ _ c.if-size-lt3.true)

pub returns-then-end-at : goal.returns-then-end-at
unfolding tempo_of
returns-then-end-at c = simp (le-ltb _ _ c.if-size-lt3.false, lt-leb _ _ c.if-end-at.true)

pub returns : goal.returns
unfolding tempo_of
returns c = simp (le-ltb _ _ c.if-size-lt3.false, le-leb _ _ c.if-end-at.false, c.three_at.ensures)
