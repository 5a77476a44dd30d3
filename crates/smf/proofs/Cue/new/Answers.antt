-- `Cue::new` meets its contract. Assumes nothing.
use lib.Ieee.{of_bits, of_int}
use Rattle.smf.specs.Cues.{cue_of}
use Rattle.smf.proofs.Cue.new.Goals as goal

pub returns : goal.returns
unfolding cue_of of_bits of_int
returns c = simp c.u64_to_f32.ensures
