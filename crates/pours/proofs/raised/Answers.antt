-- `raised` meets its contract. Assumes nothing.
use lib.Ieee.{of_bits}
use Rattle.pours.proofs.raised.Goals as goal

pub returns-then-y : goal.returns-then-y
unfolding of_bits
returns-then-y c = simp c.if-y.true

pub returns-else-y : goal.returns-else-y
unfolding of_bits
returns-else-y c = simp c.if-y.false
