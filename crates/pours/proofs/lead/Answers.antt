-- `lead` meets its contract. Assumes nothing.
use lib.Ieee.{of_bits}
use Rattle.pours.proofs.lead.Goals as goal

pub returns-then-speed : goal.returns-then-speed
unfolding of_bits
returns-then-speed c = simp c.if-speed.true

pub returns-else-speed : goal.returns-else-speed
unfolding of_bits
returns-else-speed c = simp c.if-speed.false
