-- `if_told` meets its contract. Assumes nothing.
use lib.Ieee.{of_bits}
use Rattle.pours.proofs.if_told.Goals as goal

pub returns-then-told : goal.returns-then-told
returns-then-told c = simp c.if-told.true

pub returns-else-told : goal.returns-else-told
unfolding of_bits
returns-else-told c = simp c.if-told.false
