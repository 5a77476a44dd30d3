use Rattle.walks.proofs.Lists.Loops.{Walk}
use Rattle.channel.specs.declared.Change.TheVariants.{Head}
use Rattle.channel.specs.declared.HeadChange.TheVariants.{Load}
use Rattle.sampler.specs.Refusals.{present}
use Rattle.sampler.proofs.Seats.{each_from}
use Rattle.sampler.proofs.Sampler.loaded.Given as goal

abbrev pub invariant-loop-j : goal.invariant-loop-j
invariant-loop-j l = Walk (each_from (Head (Load l.samples)) l.initial.self 0 (present l.initial.self)) (each_from (Head (Load l.samples)) l.self l.j) l.self.channels l.n l.j
