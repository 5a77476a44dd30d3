use Rattle.lent_sampler.proofs.Turned.{Turned}
use Rattle.lent_sampler.proofs.process_frame.Given as goal

abbrev pub invariant-loop-i : goal.invariant-loop-i
invariant-loop-i l = Turned l.fn.s l.fn.frame l.params l.fn.memory l.i l.moved l.s l.frame l.memory
