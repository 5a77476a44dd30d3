-- `Clip::data_to_clip` meets its contract: its tests are those of `data_to_clip_of`. Assumes nothing.
use lib.Ieee.{of_bits}
use Rattle.clip.specs.Refusals.{data_to_clip_of}
use Rattle.clip.proofs.Clip.data_to_clip.Goals as goal

pub returns-then-good-x : goal.returns-then-good-x
unfolding data_to_clip_of of_bits
returns-then-good-x c = simp (c.found_at.ensures, ← c.good.ensures, c.if-good-x.true)

pub returns-else-good-x : goal.returns-else-good-x
unfolding data_to_clip_of of_bits
returns-else-good-x c = simp (← c.good.ensures, c.if-good-x.false)
