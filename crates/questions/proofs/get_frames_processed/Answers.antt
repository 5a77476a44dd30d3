-- `get_frames_processed` meets its contract: what it answers of what is seen is what it answers of the record. Assumes nothing.
use Rattle.questions.proofs.Sights.{frames_seen}
use Rattle.questions.proofs.get_frames_processed.Goals as goal

pub returns : goal.returns
returns c = simp (c.frames_in.ensures, c.look.ensures) (frames_seen _ _)
