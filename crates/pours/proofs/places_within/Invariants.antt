use mathlib.Core.Path.{◌≡◌}
use Prim.Native.Nat.{◌≤◌}
use mathlib.Core.Bool.{true}
use lib.ListN.{length}
use Rattle.pours.specs.Steady.{CountedPlaces}
use Rattle.pours.proofs.places_within.Given as goal

abbrev pub invariant-loop-k : goal.invariant-loop-k
invariant-loop-k l = (l.k ≤ l.n) × (length l.values ≡ length l.initial.values) × (l.told ≡ true → CountedPlaces l.c l.from l.k l.values)
