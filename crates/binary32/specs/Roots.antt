-- What makes a float the root of another: no other lies as near. Sizes are fractions of whole numbers, `num` over `den`.
-- Definitions only.
use Rattle.std.specs.Prelude.{ℕ, ◌+◌, ◌*◌, ◌<◌, T, Float}
use Rattle.std.specs.Float.{binary32}
use Rattle.std.specs.Float.Ieee.{lt, le, fits}
use Rattle.std.specs.Float.Ieee.Scale.{finite}
use Rattle.std.specs.Float.Ieee.Positive.{num, den}
use Rattle.binary32.specs.Leaves.{zero32}

abbrev pub square : ℕ → ℕ
square n = n * n

-- (y + r)² < 4 x, and 4 x < (y + r)²: the root of x lies above the middle of y and r, and below it
abbrev pub MiddleBelow : Float → Float → Float → Type 0
MiddleBelow y r x = square (num y * den r + num r * den y) * den x < 4 * num x * square (den y * den r)

abbrev pub MiddleAbove : Float → Float → Float → Type 0
MiddleAbove y r x = 4 * num x * square (den y * den r) < square (num y * den r + num r * den y) * den x

-- r is a finite float that is not below zero, and nearer to the root of x than every other
pub record NearestRoot (x r : Float) : Type 0 where
  pub held : T (fits binary32 r)
  pub bounded : T (finite r)
  pub not-below : T (le zero32 r)
  pub below : (y : Float) → T (fits binary32 y) → T (finite y) → T (le zero32 y) → T (lt y r) → MiddleBelow y r x
  pub above : (y : Float) → T (fits binary32 y) → T (finite y) → T (le zero32 y) → T (lt r y) → MiddleAbove y r x
