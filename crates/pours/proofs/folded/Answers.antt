-- `folded` meets its contract, by that of `max`. Assumes nothing.
use mathlib.Core.Path.{◌∙◌}
use lib.Ieee.{of_bits}
use Rattle.clip.specs.Positions.{mirrored_of}
use Rattle.pours.proofs.folded.Goals as goal

pub returns-then-y-length : goal.returns-then-y-length
returns-then-y-length c = simp c.if-y-length.true

pub returns-else-y-length : goal.returns-else-y-length
unfolding of_bits mirrored_of
returns-else-y-length c = c.max.ensures ∙ simp c.if-y-length.false
