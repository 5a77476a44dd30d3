-- `counted` meets its contract. Assumes nothing.
use Rattle.listing.proofs.texts.counted.Goals as goal

pub returns : goal.returns
returns c = simp (c.with-2.ensures, c.with_decimal.ensures, c.with.ensures)
