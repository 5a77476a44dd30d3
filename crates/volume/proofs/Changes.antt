-- A change that takes no time is steady at once, and one within the limits is a ramp whose end is the sum of its start and its duration. Assumes nothing.
use mathlib.Core.Path.{◌≡◌, refl}
use Prim.Native.Nat.{ℕ, ◌+◌, ◌^◌, ◌≤◌, ◌<◌}
use native.Mathlib.Omega.{arith}
use lib.Ieee.{Float}
use borrow.Author.Tests.{ne_eqb}
use Rattle.volume.specs.declared.Volume.{Volume}
use Rattle.volume.specs.declared.Volume.TheVariants.{Static, Linear}
use Rattle.volume.specs.Levels.{level_of, time_after, toward_of}

-- within the limits the sum is not cut
pub later_sum : (now duration : ℕ) → now ≤ 2 ^ 48 → duration ≤ 2 ^ 24 → time_after now duration ≡ now + duration
later_sum now duration h k = omega arith

pub toward_at_once : (v : Volume) (now : ℕ) (target : Float) → toward_of v now 0 target ≡ Static target
unfolding toward_of
toward_at_once v now target = refl

pub toward_ramp : (v : Volume) (now duration : ℕ) (target : Float) → 0 < duration → now ≤ 2 ^ 48 → duration ≤ 2 ^ 24
    → toward_of v now duration target ≡ Linear now (now + duration) (level_of v now) target
unfolding toward_of
toward_ramp v now duration target p h k = rw (ne_eqb duration 0 (λ e. omega arith), later_sum now duration h k)
