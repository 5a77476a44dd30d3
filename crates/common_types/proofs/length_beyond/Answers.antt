-- `length_beyond` meets its contract: a length that is no ratio is held to 2 ^ 22. Assumes nothing.
use lib.Ieee.{of_bits}
use Rattle.common_types.proofs.Worked.{worked_beyond}
use Rattle.common_types.proofs.length_beyond.Goals as goal

pub returns-in_default : goal.returns-in_default
unfolding of_bits
returns-in_default c =
    simp (
      c.time_length.ensures,
      c.whole.ensures,
      c.timed.ensures,
      worked_beyond c.args.length c.args.transport c.in_default.not-Ratio,
    )
