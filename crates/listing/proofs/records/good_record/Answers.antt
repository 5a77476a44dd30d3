-- `good_record` meets its contract. Assumes nothing.
use Rattle.listing.specs.Records.{good_record}
use Rattle.listing.proofs.records.good_record.Goals as goal

pub returns : goal.returns
unfolding good_record
returns c = simp (c.good_settings.ensures, c.length_of.ensures, c.half_at-size.ensures.value, c.byte_at-kind.ensures)
