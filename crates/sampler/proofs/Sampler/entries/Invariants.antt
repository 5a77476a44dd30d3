use lib.ListN.{length}
use Rattle.sampler.specs.Samplers.{framed, entries_of, entries_moved}
use Rattle.sampler.proofs.Framing.{Framing, Summing}
use Rattle.sampler.proofs.Sampler.entries.Given as goal

abbrev pub invariant-loop-j : goal.invariant-loop-j
invariant-loop-j l =
    Framing (entries_of l.params (length l.initial.frame) 0 (framed l.initial.self l.initial.frame l.initial.memory)) l.params (length l.initial.frame) (length l.initial.memory) l.self l.frame l.memory l.j
    × Summing (entries_moved l.params (length l.initial.frame) 0 (framed l.initial.self l.initial.frame l.initial.memory)) l.params (length l.initial.frame) l.self l.frame l.memory l.j l.moved
