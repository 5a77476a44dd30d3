-- `pressed` meets its contract. Assumes nothing.
use lib.Ieee.{of_bits}
use Rattle.coupling.specs.Coupling.{pressed_of}
use Rattle.coupling.proofs.pressed.Goals as goal

pub returns : goal.returns
unfolding pressed_of of_bits
returns c = cc
