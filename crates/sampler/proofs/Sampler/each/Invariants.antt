use Rattle.walks.proofs.Lists.Loops.{Walk}
use Rattle.sampler.specs.Refusals.{present}
use Rattle.sampler.proofs.Seats.{each_from}
use Rattle.sampler.proofs.Sampler.each.Given as goal

abbrev pub invariant-loop-j : goal.invariant-loop-j
invariant-loop-j l = Walk (each_from l.change l.initial.self 0 (present l.initial.self)) (each_from l.change l.self l.j) l.self.channels l.n l.j
