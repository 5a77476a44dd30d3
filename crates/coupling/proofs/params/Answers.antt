-- `params` meets its contract. Assumes nothing.
use Rattle.coupling.proofs.params.Goals as goal

pub returns : goal.returns
returns c = cc
