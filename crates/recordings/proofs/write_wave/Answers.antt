-- `write_wave` meets its contract: what it answers of what is seen is what it answers of the record. Assumes nothing.
use Rattle.recordings.proofs.Sights.{write_seen_lem, wave_seen}
use Rattle.recordings.proofs.write_wave.Goals as goal

pub returns : goal.returns
returns c =
    let two = c.well_formed.0.1.1.0.1.0.1 in
    record {
      value = simp (c.write_in.ensures.value, c.look.ensures) (write_seen_lem _ two _ _);
      out_after = simp (c.write_in.ensures.out_after, c.look.ensures) (wave_seen _ two _ _ _);
    }
