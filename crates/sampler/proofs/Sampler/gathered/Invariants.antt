use lib.ListN.{length}
use Rattle.sampler.specs.Samplers.{gathered_all}
use Rattle.sampler.proofs.Gathers.{Gathering}
use Rattle.sampler.proofs.Sampler.gathered.Given as goal

abbrev pub invariant-loop-j : goal.invariant-loop-j
invariant-loop-j l = Gathering (gathered_all l.initial.self l.initial.memory) l.capacity l.n (length l.initial.memory) l.self l.memory l.j
