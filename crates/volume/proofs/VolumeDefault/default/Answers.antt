-- The default of `Volume` meets its contract: its literal is the float that the definition names. Assumes nothing.
use mathlib.Core.Path.{refl}
use lib.Ieee.{of_bits, of_int}
use Rattle.volume.proofs.VolumeDefault.default.Goals as goal

pub returns : goal.returns
unfolding of_bits of_int
returns c = refl
