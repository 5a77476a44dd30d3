-- `is_recording` meets its contract: what it answers of what is seen is what it answers of the record. Assumes nothing.
use Rattle.questions.proofs.Sights.{recording_seen}
use Rattle.questions.proofs.is_recording.Goals as goal

pub returns : goal.returns
returns c = simp (c.recording_in.ensures, c.look.ensures) (recording_seen _ _)
