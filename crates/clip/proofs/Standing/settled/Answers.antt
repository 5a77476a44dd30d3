-- `Standing::settled` meets its contract: `found_at` and `shift_for` see the clip with its old shift and `since`. Assumes nothing.
use mathlib.Core.Path.{ap, ◌∙◌}
use lib.Ieee.{Float}
use Rattle.std.specs.Prelude.{Option}
use Rattle.clip.specs.Positions.{standing_of}
use Rattle.clip.specs.Updates.{resumed, shift_for, settled_of}
use Rattle.clip.proofs.Standing.settled.Goals as goal

pub returns : goal.returns
unfolding settled_of
returns c =
    let s = c.args.self in
    let k = s.clip in
    c.resumed.ensures
    ∙ ap (λ (x : Float). standing_of (resumed k x s.now) s.now) (c.shift_for.ensures ∙ ap (λ (f : Option Float). shift_for k f s.now) c.found_at.ensures)
