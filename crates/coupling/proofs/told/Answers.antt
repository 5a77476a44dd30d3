-- `told` meets its contract. Assumes nothing.
use Rattle.coupling.specs.Coupling.{told_of}
use Rattle.coupling.proofs.told.Goals as goal

pub returns : goal.returns
unfolding told_of
returns c = cc
