-- `held` meets its contract, by its cases. Assumes nothing.
use Rattle.recordings.proofs.held.Goals as goal

pub returns-in-Refused : goal.returns-in-Refused
returns-in-Refused c = simp c.in-Refused.is
