-- `turned` meets its contract, by that of `raised`. Assumes nothing.
use lib.Ieee.{of_bits}
use Rattle.pours.proofs.turned.Goals as goal

pub returns-then-x : goal.returns-then-x
unfolding of_bits
returns-then-x c = simp c.if-x.true
