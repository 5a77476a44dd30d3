use Rattle.lent_sampler.proofs.RunTurned.{Turned}
use Rattle.lent_sampler.proofs.process_frames.Given as goal

abbrev pub invariant-loop-i : goal.invariant-loop-i
invariant-loop-i l = Turned l.fn.s l.fn.run l.params l.fn.memory l.i l.s l.run l.memory
