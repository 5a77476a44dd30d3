-- `two_at` meets its contract. Assumes nothing.
use Rattle.smf.specs.Fields.{two_at}
use Rattle.smf.proofs.fields.two_at.Goals as goal

pub returns-clause-value : goal.returns-clause-value
unfolding two_at
returns-clause-value c = simp (c.of_two.ensures.value, c.byte_at-2.ensures, c.byte_at.ensures)
