-- `four_at` meets its contract. Assumes nothing.
use Rattle.wave.proofs.FieldBytes.{four_is}
use Rattle.wave.proofs.fields.four_at.Goals as goal

pub returns : goal.returns
returns c = simp (c.byte_at.ensures, c.byte_behind.ensures, c.byte_behind-2.ensures, c.byte_behind-3.ensures, c.little_four.ensures) (four_is _ _)
