use Rattle.lent_sampler.proofs.Changes.{Turned}
use Rattle.lent_sampler.proofs.each.Given as goal

abbrev pub invariant-loop-j : goal.invariant-loop-j
invariant-loop-j l = Turned l.fn.s l.change l.n l.j l.s
