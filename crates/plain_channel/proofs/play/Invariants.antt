use Rattle.std.proofs.Common.{◌-◌}
use Rattle.channel.specs.Channels.{turning_in}
use Rattle.lent_channel.specs.Turns.{glided_to}
use Rattle.plain_channel.specs.Sides.{Together}
use Rattle.plain_channel.proofs.play.Given as goal

abbrev pub invariant-loop-g : goal.invariant-loop-g
invariant-loop-g l = Together (turning_in l.params l.fn.c l.«data») l.n l.fn.c l.fn.side (glided_to l.from l.first) l.c l.side l.g

abbrev pub decreases-loop-g : goal.decreases-loop-g
decreases-loop-g l = l.n - l.g.place
