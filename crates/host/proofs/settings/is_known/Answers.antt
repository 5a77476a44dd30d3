-- `is_known` meets its contract. Assumes nothing.
use Rattle.std.proofs.Common.{refl}
use Rattle.host.specs.Crossing.{known}
use Rattle.host.proofs.settings.is_known.Goals as goal

pub returns : goal.returns
unfolding known
returns c = refl
