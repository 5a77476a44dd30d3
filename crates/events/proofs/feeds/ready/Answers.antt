-- `ready` meets its contract. Assumes nothing.
use Rattle.events.proofs.feeds.ready.Goals as goal

pub returns : goal.returns
returns c = simp c.size_of.ensures
