-- The limits of a good clip in units: a length is from 1 to 2 ^ 22, and so length - 1 is exact. A whole number in that range is a good length.
-- Assumes nothing.
use mathlib.Core.Path.{sym, subst}
use Prim.Native.Nat.{ℕ, ◌+◌, ◌-◌, ◌*◌, ◌^◌, ◌≤◌, ◌<◌}
use native.Mathlib.Nat.{le_trans, lt_of_lt_of_le, le-add_left, mul-le-mul_right}
use mathlib.Core.Bool.{Bool, true, false, ◌&&◌}
use lib.Dec.{T, lit≤, le→leb, lt→ltb}
use lib.Pow.{pow_pos}
use lib.Ieee.{Float, binary32, sub, lt, le, fits}
use lib.Ieee.Fits.{and_i, and_l, and_r}
use lib.Ieee.Exact.{HasValue}
use Rattle.binary32.specs.Leaves.{as_float, zero32, one32}
use Rattle.binary32.proofs.Values.{lt_value}
use Rattle.binary32.proofs.Units.{Units, lt_units, le_units, units_above_value, zero_units, one_units, power_units}
use Rattle.binary32.proofs.Sums.{less_one}
use Rattle.binary32.proofs.Between.{Whole, whole}
use Rattle.binary32.proofs.Wholes.{float_is_units}
use Rattle.clip.specs.Refusals.{most32, good_length, good_clip}
use Rattle.clip.specs.declared.Clip.{Clip}

-- what `good_clip` tests
pub record GoodParts (c : Clip) : Type 0 where
  pub length : T (good_length c.length)
  pub data_length : T (good_length c.data_length)
  pub start_low : T (le zero32 c.start)
  pub start_top : T (le c.start most32)

pub good_parts : (c : Clip) → T (good_clip c) → GoodParts c
unfolding good_clip
good_parts c h =
    let l : Bool = good_length c.length in
    let d : Bool = good_length c.data_length in
    let a : Bool = le zero32 c.start in
    let b : Bool = le c.start most32 in
    record {
      length = and_l l d (and_l (l && d) (a && b) h);
      data_length = and_r l d (and_l (l && d) (a && b) h);
      start_low = and_l a b (and_r (l && d) (a && b) h);
      start_top = and_r a b (and_r (l && d) (a && b) h);
    }

pub parts_good : (c : Clip) → GoodParts c → T (good_clip c)
unfolding good_clip
parts_good c g =
    let l : Bool = good_length c.length in
    let d : Bool = good_length c.data_length in
    let a : Bool = le zero32 c.start in
    let b : Bool = le c.start most32 in
    and_i (l && d) (a && b) (and_i l d g.length g.data_length) (and_i a b g.start_low g.start_top)

-- ---- tests from units
module _ {x y : Float} {a b : ℕ} (p : Units binary32 x a) (q : Units binary32 y b) where
  pub units_le : a ≤ b → T (le x y)
  units_le h = subst T (sym (le_units p q)) (le→leb a b h)

  pub units_lt : a < b → T (lt x y)
  units_lt h = subst T (sym (lt_units p q)) (lt→ltb a b h)

pub negative_lt : (x : Float) (a : ℕ) {y : Float} {b : ℕ} → HasValue x true a (2 ^ 149) → Units binary32 y b → 0 < b → T (lt x y)
negative_lt x a {y} {b} v q h =
    subst T (sym (lt_value x y true a false b (2 ^ 149) (pow_pos 149) v (units_above_value q h))) (lt→ltb 0 (a + b) (lt_of_lt_of_le h (le-add_left b a)))

-- ---- the limits in units
module _ (l : Float) (t : T (fits binary32 l)) (h : T (good_length l)) where
  pub length_units : Whole binary32 l (2 ^ 149) (2 ^ 22 * 2 ^ 149)
  unfolding good_length
  length_units = whole t (one_units binary32) (power_units binary32 22) (and_l (le one32 l) (le l most32) h) (and_r (le one32 l) (le l most32) h)

  pub last_units : Units binary32 (sub binary32 l one32) (length_units.count - 2 ^ 149)
  last_units = less_one t length_units.is length_units.from (le_trans length_units.to (lit≤ tt))

pub start_units : (s : Float) → T (fits binary32 s) → T (le zero32 s) → T (le s most32) → Whole binary32 s 0 (2 ^ 22 * 2 ^ 149)
start_units s t h k = whole t (zero_units binary32 false) (power_units binary32 22) h k

-- ---- whole numbers
pub float_units : (n : ℕ) → n ≤ 2 ^ 22 → Units binary32 (as_float n) (n * 2 ^ 149)
float_units n h = float_is_units n (le_trans h (lit≤ tt))

pub float_length : (n : ℕ) → 1 ≤ n → n ≤ 2 ^ 22 → T (good_length (as_float n))
unfolding good_length
float_length n lo hi =
    let u = float_units n hi in
    and_i (le one32 (as_float n)) (le (as_float n) most32) (units_le (power_units binary32 0) u (mul-le-mul_right (2 ^ 149) lo))
    (units_le u (power_units binary32 22) (mul-le-mul_right (2 ^ 149) hi))
