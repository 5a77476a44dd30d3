-- `read_record` meets its contract. Assumes nothing.
use Rattle.listing.specs.Records.{record_of}
use Rattle.listing.proofs.records.read_record.Goals as goal

pub returns-then-good_record : goal.returns-then-good_record
unfolding record_of
returns-then-good_record c = simp (← c.good_record.ensures, c.if-good_record.true, c.call_of.ensures)

pub returns-else-good_record : goal.returns-else-good_record
unfolding record_of
returns-else-good_record c = simp (← c.good_record.ensures, c.if-good_record.false)
