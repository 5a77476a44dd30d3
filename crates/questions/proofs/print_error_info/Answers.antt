-- `print_error_info` meets its contract: what it answers of what is seen is what it answers of the record. Assumes nothing.
use Rattle.questions.proofs.Sights.{error_seen, text_seen}
use Rattle.questions.proofs.print_error_info.Goals as goal

pub returns : goal.returns
returns c =
    record {
      value = simp (c.error_in.ensures.value, c.look.ensures) (error_seen _ _ _);
      text_after = simp (c.error_in.ensures.text_after, c.look.ensures) (text_seen _ _ _);
    }
