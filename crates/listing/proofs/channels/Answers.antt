-- `channels` meets its contract. Assumes nothing.
use native.Mathlib.Omega.{arith}
use Rattle.listing.proofs.channels.Goals as goal

pub returns-then-h : goal.returns-then-h
returns-then-h c = record { value = simp c.if-h.true; at_most = omega arith }

pub returns-else-h : goal.returns-else-h
returns-else-h c = record { value = simp c.if-h.false; at_most = omega arith }
