-- `get_data_len` meets its contract: what it answers of what is seen is what it answers of the record. Assumes nothing.
use Rattle.questions.proofs.Sights.{length_seen}
use Rattle.questions.proofs.get_data_len.Goals as goal

pub returns : goal.returns
returns c = simp (c.length_in.ensures, c.look.ensures) (length_seen _ _)
