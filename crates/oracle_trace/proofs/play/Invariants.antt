use Rattle.std.proofs.Common.{◌≤◌, length, max}
use Rattle.oracle_trace.proofs.play.Given as goal

abbrev pub invariant-loop-record : goal.invariant-loop-record
invariant-loop-record g l = length l.run.out ≤ max (length l.fn.run.out) 65536
