-- `get_last_recorded_offset` meets its contract: what it answers of what is seen is what it answers of the record. Assumes nothing.
use Rattle.questions.proofs.Sights.{offset_seen}
use Rattle.questions.proofs.get_last_recorded_offset.Goals as goal

pub returns : goal.returns
returns c = simp (c.offset_in.ensures, c.look.ensures) (offset_seen _ _)
