-- `Clip::made` meets its contract. Assumes nothing.
use mathlib.Core.Path.{refl}
use lib.Ieee.{of_bits}
use Rattle.clip.specs.Updates.{made_of}
use Rattle.clip.proofs.Clip.made.Goals as goal

pub returns : goal.returns
unfolding made_of of_bits
returns c = refl
