use lib.ListN.{length}
use Rattle.sampler.specs.Samplers.{framed, frames_of}
use Rattle.sampler.proofs.Running.{Running}
use Rattle.sampler.proofs.Sampler.frames.Given as goal

abbrev pub invariant-loop : goal.invariant-loop
invariant-loop l =
    Running (frames_of l.params l.k (framed l.initial.self l.initial.run l.initial.memory)) l.params l.k (length l.initial.run) (length l.initial.memory) l.count l.self l.run l.memory l.a l.counter
