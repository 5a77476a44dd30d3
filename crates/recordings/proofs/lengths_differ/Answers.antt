-- `lengths_differ` meets its contract. Assumes nothing.
use Rattle.std.proofs.Common.{refl}
use Rattle.recordings.proofs.lengths_differ.Goals as goal

pub returns : goal.returns
returns c = refl
