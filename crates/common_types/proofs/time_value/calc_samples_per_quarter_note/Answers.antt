-- `calc_samples_per_quarter_note` meets its contract. Assumes nothing.
use mathlib.Core.Path.{refl}
use lib.Ieee.{of_bits, of_int}
use Rattle.common_types.specs.Times.{samples_per_quarter_note_of}
use Rattle.common_types.proofs.time_value.calc_samples_per_quarter_note.Goals as goal

pub returns : goal.returns
unfolding samples_per_quarter_note_of of_bits of_int
returns c = refl
