-- `mixed` meets its contract. Assumes nothing.
use Rattle.lent_channel.proofs.mixed.Goals as goal

pub returns : goal.returns
returns c = simp c.mixed.ensures
