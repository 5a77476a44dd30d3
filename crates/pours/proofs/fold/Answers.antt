-- `fold` meets its contract. Assumes nothing.
use lib.Ieee.{of_bits}
use Rattle.clip.specs.Positions.{mirrored_of}
use Rattle.pours.proofs.fold.Goals as goal

pub returns-then-y-length : goal.returns-then-y-length
returns-then-y-length c = simp c.if-y-length.true

pub returns-then-m : goal.returns-then-m
unfolding of_bits mirrored_of
returns-then-m c = simp (c.if-y-length.false, c.if-m.true)

pub returns-else-m : goal.returns-else-m
unfolding of_bits mirrored_of
returns-else-m c = simp (c.if-y-length.false, c.if-m.false)
