-- `ahead` meets its contract. Assumes nothing.
use lib.Ieee.{of_bits}
use Rattle.clip.specs.Positions.{one_further}
use Rattle.clip.proofs.ahead.Goals as goal

pub returns-then-speed : goal.returns-then-speed
unfolding one_further of_bits
returns-then-speed c = simp c.if-speed.true

pub returns-else-speed : goal.returns-else-speed
unfolding one_further of_bits
returns-else-speed c = simp c.if-speed.false
