use Rattle.std.proofs.Common.{◌+◌, ◌*◌, ◌≤◌, length}
use Rattle.oracle_show.proofs.replies.put_infos.Given as goal

abbrev pub invariant-loop-info : goal.invariant-loop-info
invariant-loop-info l = length l.out ≤ length l.fn.out + 9 + 27 * l.info-index
