-- `half_at` meets its contract. Assumes nothing.
use native.Mathlib.Omega.{arith}
use Rattle.octets.specs.Octets.{number_after, number_of}
use Rattle.listing.specs.Records.{half_at}
use Rattle.listing.proofs.fields.half_at.Goals as goal

pub returns-clause-value : goal.returns-clause-value
unfolding half_at number_of number_after
returns-clause-value c = simp (c.of_two.ensures.value, c.byte_at-2.ensures, c.byte_at.ensures) (omega arith)
