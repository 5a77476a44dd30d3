-- `of_two` meets its contract. Assumes nothing.
use native.Mathlib.Omega.{arith}
use Rattle.octets.specs.Octets.{number_after, number_of}
use Rattle.octets.proofs.of_two.Goals as goal

pub returns : goal.returns
unfolding number_of number_after
returns c = omega arith
