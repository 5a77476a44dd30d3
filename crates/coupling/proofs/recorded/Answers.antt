-- `recorded` meets its contract. Assumes nothing.
use Rattle.coupling.specs.Coupling.{frame_recorded}
use Rattle.coupling.proofs.recorded.Goals as goal

pub returns : goal.returns
unfolding frame_recorded
returns c = record { sampler = (cc); frame = (cc); memory = (cc) }
