-- `begun` meets its contract. Assumes nothing.
use Rattle.decimal.specs.Lines.{bytes}
use Rattle.listing.proofs.texts.begun.Goals as goal

pub returns : goal.returns
unfolding bytes
returns c = simp (c.with_output.ensures, c.with_decimal-clocked.ensures, c.with.ensures, c.new.ensures)
