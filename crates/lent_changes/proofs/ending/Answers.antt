-- `ending` meets its contract, by `Endings`. Assumes nothing.
use Rattle.lent_changes.proofs.Endings.{ended_by}
use Rattle.lent_changes.proofs.ending.Goals as goal

pub returns : goal.returns
returns c = simp (c.handled.ensures, c.altered.ensures, c.passing_of-q.ensures, ended_by)
