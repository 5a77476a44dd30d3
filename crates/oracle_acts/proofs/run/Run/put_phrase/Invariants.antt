use Rattle.std.proofs.Common.{◌≤◌, length}
use Rattle.oracle_acts.proofs.run.Run.put_phrase.Given as goal

-- The loop holds the memory, so the run is seen field by field; the text is the last.
abbrev pub invariant-loop-word : goal.invariant-loop-word
invariant-loop-word g l = length l.self.1.1.1.1.1.0 ≤ 32777
