use Rattle.plain_channel.proofs.Gliding.{Still}
use Rattle.plain_channel.proofs.cool_glide.Given as goal

abbrev pub invariant-loop-i : goal.invariant-loop-i
invariant-loop-i l = Still l.t l.«data» l.n l.fn.c l.fn.side l.fn.g l.c l.side l.i l.output
