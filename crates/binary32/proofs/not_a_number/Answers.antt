-- `binary32::not_a_number` meets its contract, by computation. Assumes nothing.
use Rattle.std.proofs.Common.{refl}
use lib.Ieee.{of_bits, div}
use Rattle.binary32.proofs.not_a_number.Goals as goal

pub returns : goal.returns
unfolding of_bits div
returns c = refl
