-- Floats that are whole numbers, by value: -0 is 0. Definitions only. Assumes nothing.
use Rattle.std.specs.Prelude.{◌≡◌, ℕ, Bool, true, ◌&&◌, nat_le, Float}
use Rattle.std.specs.Float.Ieee.{eq}
use Rattle.binary32.specs.Leaves.{as_float, as_whole}

-- x is the whole number n; said of numbers up to 2 ^ 24, each of which a float holds
pub record Is (x : Float) (n : ℕ) : Type 0 where
  pub equal : eq x (as_float n) ≡ true

-- x is a whole number from lo to hi
unfoldable pub is_whole_in : ℕ → ℕ → Float → Bool
is_whole_in lo hi x = eq x (as_float (as_whole 64 x)) && (nat_le lo (as_whole 64 x) && nat_le (as_whole 64 x) hi)
