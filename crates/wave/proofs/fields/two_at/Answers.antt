-- `two_at` meets its contract. Assumes nothing.
use Rattle.octets.specs.Octets.{bytes_at}
use Rattle.wave.specs.Fields.{two_at}
use Rattle.wave.proofs.fields.two_at.Goals as goal

pub returns-clause-value : goal.returns-clause-value
unfolding two_at bytes_at
returns-clause-value c = simp (c.byte_at.ensures, c.byte_behind.ensures, c.little_two.ensures.value)
