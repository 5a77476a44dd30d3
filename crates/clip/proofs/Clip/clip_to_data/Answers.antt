-- `Clip::clip_to_data` meets its contract, by that of `quick_rem` where it answers. Assumes nothing.
use lib.Ieee.{of_bits}
use Rattle.binary32.proofs.Truth.{yes}
use Rattle.clip.specs.Positions.{clip_to_data_of}
use Rattle.clip.proofs.Clip.clip_to_data.Goals as goal

pub returns-then-left : goal.returns-then-left
unfolding clip_to_data_of of_bits
returns-then-left c = c.quick_rem-left.ensures (yes c.if-left.true)

pub returns-else-left : goal.returns-else-left
unfolding clip_to_data_of
returns-else-left c = c.remainder.ensures
