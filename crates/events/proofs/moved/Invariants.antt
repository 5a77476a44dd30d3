use Prim.Native.Nat.{◌≤◌, ◌-◌}
use mathlib.Core.Path.{◌≡◌}
use lib.ListN.{length, take, drop}
use Rattle.events.proofs.moved.Given as goal

abbrev pub invariant-loop-i : goal.invariant-loop-i
invariant-loop-i l =
    (l.i ≤ l.left) × (length l.input ≡ length l.initial.input) × (take l.i l.input ≡ take l.i (drop l.used l.initial.input)) × (drop l.i l.input ≡ drop l.i l.initial.input)

abbrev pub decreases-loop-i : goal.decreases-loop-i
decreases-loop-i l = l.left - l.i
