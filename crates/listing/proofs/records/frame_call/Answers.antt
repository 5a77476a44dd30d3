-- `frame_call` meets its contract. Assumes nothing.
use Rattle.listing.specs.Records.{frame_call_of}
use Rattle.listing.proofs.records.frame_call.Goals as goal

pub returns-then-h : goal.returns-then-h
unfolding frame_call_of
returns-then-h c = simp (c.if-h.true, c.float_at.ensures, c.float_at-then-h.ensures)

pub returns-else-h : goal.returns-else-h
unfolding frame_call_of
returns-else-h c = simp (c.if-h.false, c.float_at-else-h.ensures)
