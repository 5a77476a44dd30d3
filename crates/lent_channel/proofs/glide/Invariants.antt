use Rattle.std.proofs.Common.{◌-◌}
use Rattle.lent_channel.proofs.Gliding.{Still}
use Rattle.lent_channel.proofs.glide.Given as goal

abbrev pub invariant-loop-i : goal.invariant-loop-i
invariant-loop-i l = Still l.t l.«data» l.n l.fn.c l.fn.g l.c l.i l.output
