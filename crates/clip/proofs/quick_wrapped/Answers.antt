-- `quick_wrapped` meets its contract, by the modes. Assumes nothing.
use mathlib.Core.Path.{◌∙◌}
use lib.Ieee.{le, neg, of_bits}
use Rattle.clip.specs.Positions.{wrapped_of}
use Rattle.clip.proofs.quick_wrapped.Goals as goal

pub returns-in-Loop-old : goal.returns-in-Loop-old
unfolding wrapped_of
returns-in-Loop-old c h =
    let old = c.in-Loop-old.is in
    (simp (c.in-Loop.is, old), c.quick_looped.ensures h ∙ simp (old))

pub returns-in-PingPong-old : goal.returns-in-PingPong-old
unfolding of_bits le neg
returns-in-PingPong-old c h = absurd h

pub returns-in-Loop-old-2 : goal.returns-in-Loop-old-2
unfolding of_bits le neg
returns-in-Loop-old-2 c h = absurd h

pub returns-in-PingPong-old-2 : goal.returns-in-PingPong-old-2
unfolding wrapped_of
returns-in-PingPong-old-2 c h =
    let old = c.in-PingPong-old-2.is in
    (simp (c.in-PingPong.is, old), c.quick_bounced.ensures h ∙ simp (old))
