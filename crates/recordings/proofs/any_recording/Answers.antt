-- `any_recording` meets its contract. Assumes nothing.
use Rattle.recordings.proofs.any_recording.Goals as goal

pub returns : goal.returns
returns c = simp (c.is_recording-2.ensures, c.is_recording.ensures)
