-- `Voice::new` meets its contract. Assumes nothing.
use lib.Ieee.{of_bits}
use Rattle.clip.specs.Updates.{made_of}
use Rattle.voice.specs.Voices.{fresh_of}
use Rattle.voice.proofs.Voice.new.Goals as goal

pub returns : goal.returns
unfolding fresh_of made_of of_bits
returns c = simp (c.toward.ensures, c.new.ensures, c.made-clip2.ensures, c.clip_mode.ensures, c.loop_length.ensures, c.speed.ensures, c.usize_to_f32-data_length.ensures)
