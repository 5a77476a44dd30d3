use Prim.Native.Nat.{ℕ, ◌+◌, ◌≤◌}
use Rattle.pours.specs.Eases.{term_at, Added}
use Rattle.pours.specs.Steady.{ramp_by}
use Rattle.pours.proofs.add_ramp.Given as goal

abbrev pub invariant-loop-k : goal.invariant-loop-k
invariant-loop-k l = (l.k ≤ l.n) × Added (λ (j : ℕ). term_at l.values (ramp_by l.over l.low l.rise (l.from + j)) j) 0 l.k l.initial.sums l.sums
