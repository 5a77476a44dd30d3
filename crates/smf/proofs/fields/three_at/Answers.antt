-- `three_at` meets its contract. Assumes nothing.
use Rattle.smf.specs.Fields.{three_at}
use Rattle.smf.proofs.fields.three_at.Goals as goal

pub returns : goal.returns
unfolding three_at
returns c = simp (c.of_three.ensures.value, c.byte_at-3.ensures, c.byte_at-2.ensures, c.byte_at.ensures)
