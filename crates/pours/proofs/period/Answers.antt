-- `period` meets its contract, by the way. Assumes nothing.
use lib.Ieee.{of_bits}
use Rattle.pours.proofs.period.Goals as goal

pub returns-in-Up : goal.returns-in-Up
returns-in-Up c = simp c.in-Up.is

pub returns-in-Down : goal.returns-in-Down
returns-in-Down c = simp c.in-Down.is

pub returns-in-Fold : goal.returns-in-Fold
unfolding of_bits
returns-in-Fold c = simp c.in-Fold.is
