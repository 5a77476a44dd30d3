use Prim.Native.Nat.{ℕ, ◌+◌, ◌-◌, ◌≤◌}
use Rattle.pours.specs.Eases.{term_at, Added}
use Rattle.pours.proofs.pour.Given as goal

abbrev pub invariant-loop-k : goal.invariant-loop-k
invariant-loop-k l =
    (l.k ≤ l.m) × Added (λ (j : ℕ). term_at l.data l.level (l.from + (j - l.at))) l.at (l.at + l.k) l.initial.sums l.sums
