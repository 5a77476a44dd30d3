-- `ramp_level` meets its contract. Assumes nothing.
use lib.Ieee.{of_bits}
use Rattle.pours.proofs.ramp_level.Goals as goal

pub returns : goal.returns
unfolding of_bits
returns c = simp (c.min.ensures, c.max.ensures, c.float_of.ensures)
