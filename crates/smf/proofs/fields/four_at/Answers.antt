-- `four_at` meets its contract. Assumes nothing.
use Rattle.smf.specs.Fields.{four_at}
use Rattle.smf.proofs.fields.four_at.Goals as goal

pub returns : goal.returns
unfolding four_at
returns c = simp (c.of_four.ensures, c.byte_at-4.ensures, c.byte_at-3.ensures, c.byte_at-2.ensures, c.byte_at.ensures)
