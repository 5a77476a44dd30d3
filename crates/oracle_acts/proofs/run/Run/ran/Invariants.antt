use Rattle.std.proofs.Common.{◌+◌, ◌*◌, ◌≤◌, length}
use Rattle.oracle_acts.proofs.run.Run.ran.Given as goal

abbrev pub invariant-loop-entry : goal.invariant-loop-entry
invariant-loop-entry l = length l.self.out ≤ length l.fn.self.out + 15 + 9 * l.entry-index
