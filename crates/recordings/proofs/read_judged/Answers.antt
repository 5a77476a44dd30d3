-- `read_judged` meets its contract: the request's rows in their order. Assumes nothing.
use Rattle.recordings.specs.Waves.{read_judged}
use Rattle.recordings.proofs.read_judged.Goals as goal

pub returns : goal.returns
unfolding read_judged
returns c = simp (c.read_rows.ensures, c.against-against.ensures, c.good_with.ensures, c.held.ensures)
