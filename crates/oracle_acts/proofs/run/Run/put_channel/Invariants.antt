use Rattle.std.proofs.Common.{◌≤◌, length, max}
use Rattle.oracle_acts.proofs.run.Run.put_channel.Given as goal

abbrev pub invariant-loop-k : goal.invariant-loop-k
invariant-loop-k g l = length l.self.out ≤ max (length l.fn.self.out) 32777
