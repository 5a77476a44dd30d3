-- `lead` meets its contract. Assumes nothing.
use lib.Ieee.{of_bits}
use Rattle.clip.specs.Positions.{lead_of}
use Rattle.clip.proofs.lead.Goals as goal

pub returns-then-speed : goal.returns-then-speed
unfolding lead_of of_bits
returns-then-speed c = simp c.if-speed.true

pub returns-else-speed : goal.returns-else-speed
unfolding lead_of of_bits
returns-else-speed c = simp c.if-speed.false
