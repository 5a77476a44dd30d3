-- `Voice::blank` meets its contract. Assumes nothing.
use mathlib.Core.Path.{refl}
use lib.Ieee.{of_bits}
use Rattle.voice.specs.Voices.{blank_voice}
use Rattle.voice.proofs.Voice.blank.Goals as goal

pub returns : goal.returns
unfolding blank_voice of_bits
returns c = refl
