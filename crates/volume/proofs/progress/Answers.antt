-- `progress` meets its contract, by those of what it calls. Assumes nothing.
use lib.Ieee.{of_bits}
use Rattle.volume.specs.Levels.{progress_of}
use Rattle.volume.proofs.progress.Goals as goal

pub returns : goal.returns
unfolding progress_of of_bits
returns c =
    simp (
      c.min.ensures,
      c.max.ensures,
      c.usize_to_f32-duration.ensures,
      c.since-2.ensures,
      c.usize_to_f32-elapsed.ensures,
      c.since.ensures,
    )
