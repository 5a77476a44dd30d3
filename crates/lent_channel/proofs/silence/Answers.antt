-- `silence` meets its contract. Assumes nothing.
use mathlib.Core.Path.{refl}
use lib.Ieee.{of_bits}
use Rattle.lent_channel.specs.Turns.{silent}
use Rattle.lent_channel.proofs.silence.Goals as goal

pub returns : goal.returns
unfolding silent of_bits
returns c = refl
