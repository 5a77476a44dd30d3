-- `faded` meets its contract: its test is that of `faded_of`. Assumes nothing.
use lib.Ieee.{of_bits}
use Rattle.voice.proofs.faded.Goals as goal

pub returns-then-out : goal.returns-then-out
unfolding of_bits
returns-then-out c = simp (c.stepped.ensures, c.toward.ensures, c.if-out.true)

pub returns-else-out : goal.returns-else-out
returns-else-out c = simp (c.stepped-else-out.ensures, c.if-out.false)
