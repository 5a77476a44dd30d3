use Rattle.std.proofs.Common.{◌≡◌, ◌≤◌, length}
use Rattle.events.proofs.play.Given as goal

abbrev pub invariant-loop-turns : goal.invariant-loop-turns
invariant-loop-turns g l =
    (l.run.have ≤ length l.fn.input) × (length l.memory ≡ length l.fn.memory) × (length l.input ≡ length l.fn.input) × (length l.out ≡ length l.fn.out)

abbrev pub decreases-loop-turns : goal.decreases-loop-turns
decreases-loop-turns g l = l.turns
