-- `beginning` meets its contract. Assumes nothing.
use mathlib.Core.Path.{refl}
use lib.Ieee.{of_bits}
use Rattle.lent_channel.specs.Turns.{begun}
use Rattle.lent_channel.proofs.beginning.Goals as goal

pub returns : goal.returns
unfolding begun of_bits
returns c = refl
