use Rattle.std.proofs.Common.{◌≡◌}
use Rattle.oracle_acts.proofs.run.Run.frames.Given as goal

abbrev pub invariant-loop-i : goal.invariant-loop-i
invariant-loop-i l = l.self.out ≡ l.fn.self.out
