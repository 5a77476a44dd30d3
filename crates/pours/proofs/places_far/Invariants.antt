use mathlib.Core.Path.{◌≡◌}
use Prim.Native.Nat.{◌≤◌}
use lib.ListN.{length}
use Rattle.pours.specs.Steady.{Places}
use Rattle.pours.proofs.places_far.Given as goal

abbrev pub invariant-loop-k : goal.invariant-loop-k
invariant-loop-k l = (l.k ≤ l.n) × (length l.values ≡ length l.initial.values) × Places l.c l.time l.k l.values
