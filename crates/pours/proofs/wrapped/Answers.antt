-- `wrapped` meets its contract, by the mode. Assumes nothing.
use mathlib.Core.Path.{◌∙◌}
use Rattle.clip.specs.Positions.{wrapped_of}
use Rattle.pours.proofs.wrapped.Goals as goal

pub returns-in-Loop : goal.returns-in-Loop
unfolding wrapped_of
returns-in-Loop c h = c.looped.ensures h ∙ simp c.in-Loop.is

pub returns-in-PingPong : goal.returns-in-PingPong
unfolding wrapped_of
returns-in-PingPong c h = c.bounced.ensures h ∙ simp c.in-PingPong.is
