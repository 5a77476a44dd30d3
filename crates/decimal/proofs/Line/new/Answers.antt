-- `Line::new` meets its contract. Assumes nothing.
use mathlib.Core.Path.{refl}
use Rattle.decimal.specs.Lines.{line_of}
use Rattle.decimal.proofs.Line.new.Goals as goal

pub returns : goal.returns
unfolding line_of
returns c = refl
