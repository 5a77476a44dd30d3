use Rattle.plain_channel.proofs.Pouring.{Still}
use Rattle.plain_channel.proofs.ease.Given as goal

abbrev pub invariant-loop-i : goal.invariant-loop-i
invariant-loop-i l = Still l.params l.«data» l.n l.fn.c l.fn.side l.i l.c l.side
