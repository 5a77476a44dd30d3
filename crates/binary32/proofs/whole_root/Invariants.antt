use Rattle.std.proofs.Common.{suc, ◌*◌, ◌^◌, ◌<◌, ◌≤◌}
use Rattle.binary32.proofs.whole_root.Given as goal

abbrev pub invariant-loop-r : goal.invariant-loop-r
invariant-loop-r l = (l.n < suc l.r * suc l.r) × (l.r ≤ 2 ^ 26)

abbrev pub decreases-loop-r : goal.decreases-loop-r
decreases-loop-r l = l.r
