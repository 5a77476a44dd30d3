-- `size_of` meets its contract. Assumes nothing.
use lib.Ieee.{of_bits}
use Rattle.pours.proofs.size_of.Goals as goal

pub returns-then-x : goal.returns-then-x
unfolding of_bits
returns-then-x c = simp c.if-x.true

pub returns-else-x : goal.returns-else-x
unfolding of_bits
returns-else-x c = simp c.if-x.false
