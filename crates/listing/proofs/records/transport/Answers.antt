-- `transport` meets its contract. Assumes nothing.
use Rattle.listing.specs.Records.{transport_of}
use Rattle.listing.proofs.records.transport.Goals as goal

pub returns : goal.returns
unfolding transport_of
returns c = simp (c.word_at-2.ensures, c.word_at.ensures, c.float_at-2.ensures, c.float_at.ensures)
