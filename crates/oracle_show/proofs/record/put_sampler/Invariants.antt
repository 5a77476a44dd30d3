use Rattle.std.proofs.Common.{◌+◌, ◌*◌, ◌≤◌, length}
use Rattle.oracle_show.proofs.record.put_sampler.Given as goal

abbrev pub invariant-loop-c : goal.invariant-loop-c
invariant-loop-c l = length l.out ≤ length l.fn.out + 6968 * l.c-index
