-- `run_channel` meets its contract. Assumes nothing.
use Rattle.std.proofs.Common.{ne_eqb}
use Rattle.lent_sampler.specs.Runs.{run_seat}
use Rattle.lent_sampler.proofs.run_channel.Goals as goal

pub returns-then-count-eq1 : goal.returns-then-count-eq1
unfolding run_seat
returns-then-count-eq1 c = simp c.if-count-eq1.true

pub returns-else-count-eq1 : goal.returns-else-count-eq1
unfolding run_seat
returns-else-count-eq1 c = simp (ne_eqb _ _ c.if-count-eq1.false)
