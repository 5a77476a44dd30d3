-- `mirrored` meets its contract. Assumes nothing.
use mathlib.Core.Path.{refl}
use lib.Ieee.{of_bits}
use Rattle.clip.specs.Positions.{mirrored_of}
use Rattle.clip.proofs.mirrored.Goals as goal

pub returns : goal.returns
unfolding mirrored_of of_bits
returns c = refl
