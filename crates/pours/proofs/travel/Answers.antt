-- `travel` meets its contract. Assumes nothing.
use mathlib.Core.Path.{ap}
use lib.Ieee.{Float, binary32, add, mul}
use Rattle.pours.proofs.travel.Goals as goal

pub returns : goal.returns
returns c = let a = c.args in ap (λ (x : Float). add binary32 a.shift (mul binary32 x a.speed)) c.float_of.ensures
