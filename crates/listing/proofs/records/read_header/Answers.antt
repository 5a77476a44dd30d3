-- `read_header` meets its contract. Assumes nothing.
use Rattle.listing.specs.Records.{header_of}
use Rattle.listing.proofs.records.read_header.Goals as goal

pub returns-then-good_header : goal.returns-then-good_header
unfolding header_of
returns-then-good_header c = simp (← c.good_header.ensures, c.if-good_header.true, c.byte_at.ensures, c.byte_at-then-good_header.ensures, c.byte_at-then-good_header-2.ensures)

pub returns-else-good_header : goal.returns-else-good_header
unfolding header_of
returns-else-good_header c = simp (← c.good_header.ensures, c.if-good_header.false)
