-- `beginnings_in` meets its contract. Assumes nothing.
use Rattle.recordings.proofs.beginnings_in.Goals as goal

pub returns : goal.returns
returns c = simp (c.second_in.ensures, c.begins.ensures)
