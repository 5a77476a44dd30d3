-- The default of `Transport` meets its contract: its literals are the floats that the definition names. Assumes nothing.
use mathlib.Core.Path.{refl}
use lib.Ieee.{of_bits, of_int}
use Rattle.common_types.proofs.TransportDefault.default.Goals as goal

pub returns : goal.returns
unfolding of_bits of_int
returns c = refl
