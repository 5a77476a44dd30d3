-- `good_length` meets its contract: its tests are those of `good_length`. Assumes nothing.
use mathlib.Core.Path.{refl}
use lib.Ieee.{of_bits}
use Rattle.clip.specs.Refusals.{good_length}
use Rattle.clip.proofs.good_length.Goals as goal

pub returns : goal.returns
unfolding good_length of_bits
returns c = refl
