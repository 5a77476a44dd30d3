use Rattle.lent_sampler.proofs.Gathers.{Turned}
use Rattle.lent_sampler.proofs.gather.Given as goal

abbrev pub invariant-loop-j : goal.invariant-loop-j
invariant-loop-j l = Turned l.fn.s l.fn.memory l.j l.s l.memory
