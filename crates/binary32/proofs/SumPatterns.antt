-- The whole part of a float from 0 to below 2 ^ 23 stands in the pattern of its sum with 2 ^ 28 in binary64, above 24 digits of fraction.
-- The sum rounds to a multiple of 2 ^ -24; no float lies less than that below a whole number, so that none is rounded up to one. Assumes nothing.
use Rattle.std.proofs.Common.{◌≡◌, ℕ, suc, ◌+◌, ◌-◌, ◌*◌, ◌/◌, ◌%◌, ◌^◌, ◌<◌, ◌≤◌, min, Bool, true, false, not, T, leb, pos, sym, refl, ap, ◌∙◌, subst, inl, inr, le_trans, le_of_eq, le_refl, lt_of_lt_of_le, lt_of_le_of_lt, le_of_lt, add-le-add, mul-le-mul_right, mul_assoc, lt-suc_self, suc-mul, div-lt_iff_lt-mul, add-mul, add_comm, lt_of_mul-lt-mul_right, mul-lt-mul_of_pos_right, mul-pos, div-mul-le_self, le_of_mul-le-mul_right, le-add_left, arith, lit<, lit≤, leb→le, pow_pos, pow_mono, shl_lt}
use lib.Dec.{nleb→lt}
use lib.Ieee.{Float, fin, binary32, binary64, add, lt, le, fits, is_nan, to_bits, to_unsigned}
use lib.Ieee.Nearest.{closest}
use lib.Ieee.Exact.{HasValue}
use lib.Ieee.Scale.{overflow}
use Rattle.binary32.specs.Leaves.{zero32}
use Rattle.binary32.proofs.Truth.{yes_or_no}
use Rattle.binary32.proofs.Values.{finite_not_nan, value_finite, value_same, value_to_unsigned, negative_to_unsigned}
use Rattle.binary32.proofs.Units.{Grid, grid_multiple, pow_over, Units, units_above_value, zero_units, power_units}
use Rattle.binary32.proofs.Rounding.{rd, rd_at, rd_ge, rd_le}
use Rattle.binary32.proofs.Sums.{add_units}
use Rattle.binary32.proofs.Between.{Whole, whole_below}
use Rattle.binary32.proofs.Patterns.{units_bits}

-- ---- no float lies less than 2 ^ -24 below a whole number
coarse : (n : ℕ) (e : ℕ) → e * 2 ^ 125 < suc n * 2 ^ 149 → e * 2 ^ 125 + 2 ^ 125 ≤ suc n * 2 ^ 149
coarse n e h =
    let same : suc n * 2 ^ 149 ≡ suc n * 2 ^ 24 * 2 ^ 125 = sym (mul_assoc (suc n) (2 ^ 24) (2 ^ 125)) in
    let less : e < suc n * 2 ^ 24 = lt_of_mul-lt-mul_right (2 ^ 125) (lt_of_lt_of_le h (le_of_eq same)) in
    le_trans (le_of_eq (sym (suc-mul e (2 ^ 125)))) (le_trans (mul-le-mul_right (2 ^ 125) less) (le_of_eq (sym same)))

gap : (a n : ℕ) → Grid binary32 a → a < suc n * 2 ^ 149 → a + 2 ^ 125 ≤ suc n * 2 ^ 149
gap a n g h = elim (yes_or_no (leb 125 g.shift)) [
  | inl l ↦
      let e = g.digits * 2 ^ (g.shift - 125) in
      let is : a ≡ e * 2 ^ 125 = g.is ∙ pow_over g.digits g.shift 125 (leb→le 125 g.shift l) in
      subst (λ (z : ℕ). z + 2 ^ 125 ≤ suc n * 2 ^ 149) (sym is) (coarse n e (subst (λ (z : ℕ). z < suc n * 2 ^ 149) is h))
  | inr l ↦
      let j = g.shift in
      let J : j < 125 = nleb→lt 125 j l in
      let small : a < 2 ^ 148 = lt_of_lt_of_le (subst (λ (z : ℕ). z < 2 ^ (24 + j)) (sym g.is) (shl_lt 24 j g.few)) (pow_mono {i = 24 + j} {j = 148} (omega arith)) in
      let room : 2 ^ 148 + 2 ^ 125 ≤ 2 ^ 149 = lit≤ tt in
      le_trans (add-le-add (le_of_lt small) (le_refl (2 ^ 125)))
      (le_trans room (le_trans (le-add_left (2 ^ 149) (n * 2 ^ 149)) (le_of_eq (sym (suc-mul n (2 ^ 149))))))
]

-- ---- the digits of the rounded sum: q of 2 ^ -24 each
record Cut (a n : ℕ) : Type 0 where
  digits : ℕ
  is : rd binary64 (a * 2 ^ 925 + 2 ^ 28 * 2 ^ 1074) ≡ digits * 2 ^ 1050
  from : 2 ^ 52 + n * 2 ^ 24 ≤ digits
  to : digits ≤ 2 ^ 52 + n * 2 ^ 24 + (2 ^ 24 - 1)

module _ (a n : ℕ) (least : n * 2 ^ 149 ≤ a) (most : a + 2 ^ 125 ≤ suc n * 2 ^ 149) (N : n < 2 ^ 23) where
  abbrev s : ℕ
  s = a * 2 ^ 925 + 2 ^ 28 * 2 ^ 1074

  abbrev lo : ℕ
  lo = 2 ^ 52 + n * 2 ^ 24

  abbrev hi : ℕ
  hi = lo + (2 ^ 24 - 1)

  hi_small : hi < 2 ^ 53
  hi_small = omega (arith, N)

  -- n of 2 ^ 24 each, of 2 ^ 1050 units each
  units_of : (m : ℕ) → (2 ^ 52 + m * 2 ^ 24) * 2 ^ 1050 ≡ m * 2 ^ 149 * 2 ^ 925 + 2 ^ 28 * 2 ^ 1074
  units_of m =
      add-mul (2 ^ 52) (m * 2 ^ 24) (2 ^ 1050)
      ∙ add_comm (2 ^ 52 * 2 ^ 1050) (m * 2 ^ 24 * 2 ^ 1050)
      ∙ ap (λ (z : ℕ). z + 2 ^ 28 * 2 ^ 1074) (mul_assoc m (2 ^ 24) (2 ^ 1050) ∙ sym (mul_assoc m (2 ^ 149) (2 ^ 925)))

  above : lo * 2 ^ 1050 ≤ s
  above = le_trans (le_of_eq (units_of n)) (add-le-add (mul-le-mul_right (2 ^ 925) least) (le_refl (2 ^ 28 * 2 ^ 1074)))

  below : s ≤ hi * 2 ^ 1050
  below = less (a * 2 ^ 925) (2 ^ 28 * 2 ^ 1074) (2 ^ 1050) (hi * 2 ^ 1050)
      (le_trans (add-le-add (le_trans (le_of_eq (sym (add-mul a (2 ^ 125) (2 ^ 925)))) (mul-le-mul_right (2 ^ 925) most)) (le_refl (2 ^ 28 * 2 ^ 1074)))
      (le_of_eq (sym (units_of (suc n)) ∙ ap (λ (z : ℕ). z * 2 ^ 1050) next ∙ suc-mul hi (2 ^ 1050))))
    where
      less : (a b k h : ℕ) → a + k + b ≤ h + k → a + b ≤ h
      less a b k h g = omega arith

      next : 2 ^ 52 + suc n * 2 ^ 24 ≡ suc hi
      next = omega arith

  cut : Cut a n
  cut = record {
    digits = q;
    is = is;
    from = le_of_mul-le-mul_right (le_trans (rd_ge (grid_multiple binary64 lo 1050 (omega (arith, N))) above) (le_of_eq is)) (pow_pos 1050);
    to = le_of_mul-le-mul_right (le_trans (le_of_eq (sym is)) (rd_le (grid_multiple binary64 hi 1050 (le_of_lt hi_small)) below)) (pow_pos 1050);
  }
    where
      q : ℕ
      q = closest s (2 ^ 1050)

      is : rd binary64 s ≡ q * 2 ^ 1050
      is = rd_at binary64 s 1050 (le-add_left (2 ^ 28 * 2 ^ 1074) (a * 2 ^ 925)) (lt_of_le_of_lt below (mul-lt-mul_of_pos_right hi_small (pow_pos 1050)))

-- ---- and of its pattern
pattern_cut : (q n : ℕ) → 2 ^ 52 + n * 2 ^ 24 ≤ q → q ≤ 2 ^ 52 + n * 2 ^ 24 + (2 ^ 24 - 1) → n < 2 ^ 23 → (1050 * 2 ^ 52 + q) / 2 ^ 24 % 2 ^ 28 ≡ n
pattern_cut q n a b c = omega arith

few : (q n : ℕ) → q ≤ 2 ^ 52 + n * 2 ^ 24 + (2 ^ 24 - 1) → n < 2 ^ 23 → q ≤ 2 ^ 53
few q n b c = omega arith

full : (q n : ℕ) → 2 ^ 52 + n * 2 ^ 24 ≤ q → 2 ^ 52 ≤ q
full q n a = omega arith

cast_units : {x : Float} {a : ℕ} → Units binary32 x a → a < 2 ^ 23 * 2 ^ 149 → to_unsigned 64 x ≡ a / 2 ^ 149
cast_units {x} {a} p h = go p.sign refl
  where
    n : ℕ
    n = a / 2 ^ 149

    go : (s : Bool) → p.sign ≡ s → to_unsigned 64 x ≡ n
    go false e =
        let N : n < 2 ^ 23 = (div-lt_iff_lt-mul (pow_pos 149)).1 h in
        value_to_unsigned 64 x a (2 ^ 149) (pow_pos 149) (subst (λ (s : Bool). HasValue x s a (2 ^ 149)) e p.is) ∙ least n N
      where
        least : (n : ℕ) → n < 2 ^ 23 → min n (2 ^ 64 - 1) ≡ n
        least n l = omega arith
    go true e =
        negative_to_unsigned 64 x a (2 ^ 149) (subst (λ (s : Bool). HasValue x s a (2 ^ 149)) e p.is)
        ∙ sym (ap (λ (z : ℕ). z / 2 ^ 149) (p.null (subst T (sym e) tt)))

module _ (x : Float) (t : T (fits binary32 x)) (l : T (le zero32 x)) (h : T (lt x (fin false 1 (pos 23)))) where
  w : (w : Whole binary32 x 0 (2 ^ 23 * 2 ^ 149)) × (w.count < 2 ^ 23 * 2 ^ 149)
  w = whole_below t (zero_units binary32 false) (power_units binary32 23) l h

  abbrev a : ℕ
  a = w.0.count

  abbrev n : ℕ
  n = a / 2 ^ 149

  small : n < 2 ^ 23
  small = (div-lt_iff_lt-mul (pow_pos 149)).1 w.1

  k : Cut a n
  k = cut a n (div-mul-le_self a (2 ^ 149)) (gap a n w.0.grid ((div-lt_iff_lt-mul (pow_pos 149)).0 (lt-suc_self n))) small

  wide : Units binary64 x (a * 2 ^ 925)
  wide = record {
    sign = w.0.is.sign;
    is = value_same x w.0.is.sign a (2 ^ 149) (a * 2 ^ 925) (2 ^ 1074) (pow_pos 149) (sym (mul_assoc a (2 ^ 925) (2 ^ 149))) w.0.is.is;
    null = λ z. ap (λ (m : ℕ). m * 2 ^ 925) (w.0.is.null z);
  }

  under : rd binary64 (a * 2 ^ 925 + 2 ^ 28 * 2 ^ 1074) < overflow binary64
  under = lt_of_le_of_lt (le_of_eq k.is) (lt_of_le_of_lt (mul-le-mul_right (2 ^ 1050) (few k.digits n k.to small)) (lit< tt))

  value : HasValue (add binary64 x (fin false 1 (pos 28))) false (k.digits * 2 ^ 1050) (2 ^ 1074)
  value =
      subst (λ (z : ℕ). HasValue (add binary64 x (fin false 1 (pos 28))) false z (2 ^ 1074)) k.is
      (units_above_value (add_units wide (power_units binary64 28) under) (lt_of_lt_of_le (mul-pos (lt_of_lt_of_le (pow_pos 52) (full k.digits n k.from)) (pow_pos 1050)) (le_of_eq (sym k.is))))

  pub sum_pattern : to_bits binary64 (add binary64 x (fin false 1 (pos 28))) / 2 ^ 24 % 2 ^ 28 ≡ to_unsigned 64 x
  sum_pattern =
      ap (λ (z : ℕ). z / 2 ^ 24 % 2 ^ 28) (units_bits binary64 k.digits 1050 (few k.digits n k.to small) (λ z. full k.digits n k.from) (add binary64 x (fin false 1 (pos 28))) value)
      ∙ pattern_cut k.digits n k.from k.to small
      ∙ sym (cast_units w.0.is w.1)

  pub sum_not_nan : T (not (is_nan (add binary64 x (fin false 1 (pos 28)))))
  sum_not_nan = finite_not_nan (add binary64 x (fin false 1 (pos 28))) (value_finite (add binary64 x (fin false 1 (pos 28))) false (k.digits * 2 ^ 1050) (2 ^ 1074) value)
