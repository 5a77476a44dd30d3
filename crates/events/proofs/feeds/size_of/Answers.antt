-- `size_of` meets its contract. Assumes nothing.
use Rattle.events.specs.Feeds.{size_of}
use Rattle.events.proofs.feeds.size_of.Goals as goal

pub returns-then-opened : goal.returns-then-opened
unfolding size_of
returns-then-opened c = simp c.if-opened.true c.record_size.ensures

pub returns : goal.returns
unfolding size_of
returns c = simp c.if-opened.false
