-- The default of `Params` meets its contract: its literals are the floats that the definition names. Assumes nothing.
use lib.Ieee.{of_bits, of_int}
use Rattle.common_types.proofs.ParamsDefault.default.Goals as goal

pub returns : goal.returns
unfolding of_bits of_int
returns c = rw c.default.ensures
