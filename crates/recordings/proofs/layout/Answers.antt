-- `layout` meets its contract. Assumes nothing.
use Rattle.std.proofs.Common.{refl}
use Rattle.recordings.proofs.layout.Goals as goal

pub returns : goal.returns
returns c = rw c.second_start.ensures refl
