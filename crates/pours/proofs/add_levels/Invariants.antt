use Prim.Native.Nat.{◌≤◌}
use Rattle.pours.specs.Eases.{Added}
use Rattle.pours.specs.Steady.{leveled}
use Rattle.pours.proofs.add_levels.Given as goal

abbrev pub invariant-loop-k : goal.invariant-loop-k
invariant-loop-k l = (l.k ≤ l.n) × Added (leveled l.values l.volume l.time) 0 l.k l.initial.sums l.sums
