-- `get_waveform_summary` meets its contract: what it answers of what is seen is what it answers of the record. Assumes nothing.
use Rattle.questions.proofs.Seats.{waveform_seen, list_seen}
use Rattle.questions.proofs.get_waveform_summary.Goals as goal

pub returns : goal.returns
returns c =
    record {
      value = simp (c.waveform_in.ensures.value, c.look.ensures) (waveform_seen _ _ _ _);
      list_after = simp (c.waveform_in.ensures.list_after, c.look.ensures) (list_seen _ _ _ _);
    }
