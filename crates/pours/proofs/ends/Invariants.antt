use mathlib.Core.Path.{◌≡◌}
use Prim.Native.Nat.{◌≤◌}
use mathlib.Core.Bool.{false}
use Rattle.pours.specs.Steady.{played_on, PlaysBelow}
use Rattle.pours.proofs.ends.Given as goal

abbrev pub invariant-loop-k : goal.invariant-loop-k
invariant-loop-k l = (l.k ≤ l.n) × (l.sum ≡ played_on l.by l.played l.k) × (l.over ≡ false → PlaysBelow l.played l.by l.whole l.k)
