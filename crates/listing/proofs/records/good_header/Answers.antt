-- `good_header` meets its contract. Assumes nothing.
use Rattle.listing.specs.Records.{good_header}
use Rattle.listing.proofs.records.good_header.Goals as goal

pub returns : goal.returns
unfolding good_header
returns c = simp (c.byte_at.ensures, c.byte_at-count.ensures, c.byte_at-version.ensures)
