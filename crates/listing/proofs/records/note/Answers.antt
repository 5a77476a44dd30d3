-- `note` meets its contract. Assumes nothing.
use Rattle.listing.proofs.records.note.Goals as goal

pub returns : goal.returns
returns c = simp (c.new.ensures, c.byte_at-2.ensures, c.byte_at.ensures)
