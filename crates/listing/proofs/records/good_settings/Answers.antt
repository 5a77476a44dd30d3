-- `good_settings` meets its contract. Assumes nothing.
use Rattle.listing.specs.Records.{good_settings}
use Rattle.listing.proofs.records.good_settings.Goals as goal

pub returns : goal.returns
unfolding good_settings
returns c = simp (c.byte_at-4.ensures, c.last_length_kind.ensures, c.byte_at-3.ensures, c.byte_at-2.ensures, c.byte_at.ensures)
