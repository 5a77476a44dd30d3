use lib.Ieee.{of_bits, of_int}
use Rattle.common_types.specs.Modes.{index_to_f32_of}
use Rattle.common_types.proofs.index_to_f32.Goals as goal

pub returns : goal.returns
unfolding index_to_f32_of of_bits of_int
returns c = simp (c.usize_to_f32-i.ensures, c.usize_to_f32-l.ensures)
