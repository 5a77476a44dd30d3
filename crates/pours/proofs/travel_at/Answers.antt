-- `travel_at` meets its contract. Assumes nothing.
use mathlib.Core.Path.{ap₂, ◌∙◌}
use native.Mathlib.Omega.{arith}
use lib.Ieee.{Float, binary32, add, mul}
use Rattle.clip.specs.Positions.{travel_at}
use Rattle.pours.proofs.Placing.{lead_few, lead_float}
use Rattle.pours.proofs.travel_at.Goals as goal

pub float_of-requires : goal.float_of-requires
float_of-requires c = omega (arith, lead_few _ c.lead.ensures)

pub returns : goal.returns
unfolding travel_at
returns c =
    let a = c.args in
    ap₂ (λ (x y : Float). add binary32 a.c.shift (mul binary32 (add binary32 x y) a.c.speed)) c.usize_to_f32.ensures
    (c.float_of.ensures ∙ lead_float a.c.speed c.lead.ensures)
