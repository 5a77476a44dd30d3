-- `float_at` meets its contract. Assumes nothing.
use Rattle.listing.specs.Records.{float_at}
use Rattle.listing.proofs.fields.float_at.Goals as goal

pub returns : goal.returns
unfolding float_at
returns c = simp (c.from_bits.ensures, c.word_at.ensures)
