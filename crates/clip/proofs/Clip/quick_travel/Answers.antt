-- `Clip::quick_travel` meets its contract, by those of `elapsed_at` and `way`. Assumes nothing.
use mathlib.Core.Path.{ap, ◌∙◌}
use Prim.Native.Nat.{ℕ}
use lib.Ieee.{Float, binary32, add, mul}
use Rattle.binary32.specs.Leaves.{as_float}
use Rattle.clip.specs.Positions.{lead_of, travel_at}
use Rattle.clip.proofs.Clip.quick_travel.Goals as goal

pub returns : goal.returns
unfolding travel_at
returns c =
    let s = c.args.self in
    ap (λ (w : Float). add binary32 s.shift (mul binary32 w s.speed))
    (c.way.ensures ∙ ap (λ (n : ℕ). add binary32 (as_float n) (lead_of s.speed)) c.elapsed_at.ensures)
