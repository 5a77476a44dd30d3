use Rattle.std.proofs.Common.{◌-◌}
use Rattle.channel.specs.Channels.{turning_in}
use Rattle.lent_channel.proofs.Turns.{PlayedTo}
use Rattle.lent_channel.proofs.play.Given as goal

abbrev pub invariant-loop-g : goal.invariant-loop-g
invariant-loop-g l = PlayedTo (turning_in l.fn.params l.fn.c l.fn.«data») l.fn.c l.c l.g

abbrev pub decreases-loop-g : goal.decreases-loop-g
decreases-loop-g l = l.n - l.g.place
