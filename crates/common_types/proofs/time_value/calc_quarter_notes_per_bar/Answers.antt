-- `calc_quarter_notes_per_bar` meets its contract. Assumes nothing.
use lib.Ieee.{of_bits, of_int}
use Rattle.common_types.specs.Times.{quarter_notes_per_bar_of}
use Rattle.common_types.proofs.time_value.calc_quarter_notes_per_bar.Goals as goal

pub returns : goal.returns
unfolding quarter_notes_per_bar_of of_bits of_int
returns c = simp (c.u32_to_f32-numerator.ensures, c.u32_to_f32-denominator.ensures)
