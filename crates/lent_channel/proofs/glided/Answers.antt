-- `glided` meets its contract. Assumes nothing.
use mathlib.Core.Path.{refl}
use Rattle.lent_channel.specs.Turns.{glided_to}
use Rattle.lent_channel.proofs.glided.Goals as goal

pub returns : goal.returns
unfolding glided_to
returns c = refl
