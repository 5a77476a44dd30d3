use Rattle.std.proofs.Common.{◌≡◌, ◌+◌, ◌*◌, ◌≤◌, length}
use Rattle.oracle_parts.proofs.answers.Given as goal

abbrev pub invariant-loop-record : goal.invariant-loop-record
invariant-loop-record l = (l.all ≡ l.initial.all) × (length l.out ≤ length l.fn.out + 302 * l.record-index)
