use mathlib.Core.Path.{◌≡◌}
use Prim.Native.Nat.{◌+◌, ◌-◌, ◌%◌, ◌≤◌, ◌<◌}
use Rattle.pours.specs.Eases.{Added}
use Rattle.pours.proofs.Straight.{term}
use Rattle.pours.proofs.pour_all.Given as goal

abbrev pub invariant-loop-f : goal.invariant-loop-f
invariant-loop-f l =
    (l.f ≤ l.n) × (l.at < l.fn.b.length) × (l.at ≡ (l.fn.h.place + l.f) % l.fn.b.length) × Added (term l.fn.h.start l.fn.h.place l.fn.b.length l.fn.b.total l.data l.level) 0 l.f l.initial.sums l.sums

abbrev pub decreases-loop-f : goal.decreases-loop-f
decreases-loop-f l = l.n - l.f
