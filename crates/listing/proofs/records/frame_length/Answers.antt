-- `frame_length` meets its contract. Assumes nothing.
use Rattle.listing.proofs.records.frame_length.Goals as goal

pub returns-then-h : goal.returns-then-h
returns-then-h c = simp c.if-h.true

pub returns-else-h : goal.returns-else-h
returns-else-h c = simp c.if-h.false
