-- `clamped` meets its contract, by that of `min`. Assumes nothing.
use lib.Ieee.{of_bits}
use Rattle.clip.proofs.clamped.Goals as goal

pub returns : goal.returns
unfolding of_bits
returns c = c.min.ensures
