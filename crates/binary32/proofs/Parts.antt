-- A value from 0 on as its floor and what remains of it. That is from +0 to below 1, and with the floor as a whole number it adds up to the value, and to +0 for -0.
-- It can be had by taking that whole number off. Assumes nothing.
use Rattle.std.proofs.Common.{◌≡◌, ℕ, ◌-◌, ◌*◌, ◌/◌, ◌%◌, ◌^◌, ◌<◌, ◌≤◌, min, Bool, true, false, not, ◌&&◌, T, eqb, sym, refl, ap, ◌∙◌, subst, zero-le, le_trans, le_of_eq, lt_of_lt_of_le, add-zero, le_of_lt, lt_irrefl, mod-lt, div-add-mod', le-div_iff_mul-le, div-mul-le_self, add-sub_cancel, arith, lit<, lit≤, le→leb, lt→ltb, pow_pos, le-ltb, lt-ltb}
use native.Mathlib.Nat.{mod-add-div', zero-div, sub_self}
use mathlib.Core.Bool.{and-false}
use lib.Ieee.{Float, nan, inf, fin, binary32, add, sub, lt, le, eq, fits, to_unsigned}
use lib.Ieee.Fits.{add-fits, sub-fits, eq→eqb}
use lib.Ieee.Bits.{is_true}
use lib.Ieee.Exact.{HasValue}
use lib.Ieee.Scale.{finite, overflow}
use Rattle.binary32.specs.Leaves.{zero32, one32, as_float, as_whole, abs_of, sign_of, floor_of}
use Rattle.binary32.proofs.Values.{value_size, value_to_unsigned, negative_to_unsigned}
use Rattle.binary32.proofs.Units.{Grid, Units, lt_units, le_units, eq_units, grid_of, under_of, units_unique, zero_units, zero-fits, one_units, power_units}
use Rattle.binary32.proofs.Sums.{add_exact, add_sign, sub_exact, sub_grid, sub_sign}
use Rattle.binary32.proofs.Between.{at_least}
use Rattle.binary32.proofs.Wholes.{float_is_units, float_sign, units-is, cast_is}
use Rattle.binary32.proofs.Floors.{floor_cast, above_large, floor_sign, floor_units}
use Rattle.binary32.proofs.Sizes.{size_sign, size_fits}

-- ---- in units
remains : (n o : ℕ) → n - n / o * o ≡ n % o
remains n o = ap (λ (z : ℕ). z - n / o * o) (sym (mod-add-div' n o)) ∙ add-sub_cancel (n % o) (n / o * o)

unlike_itself : (s : Bool) → (s && not s) ≡ false
unlike_itself true = refl
unlike_itself false = refl

size_units : (x : Float) (n : ℕ) → Units binary32 x n → Units binary32 (abs_of x) n
size_units nan n p = absurd p.is
size_units (inf s) n p = absurd p.is
size_units (fin s m e) n p = record { sign = false; is = (refl, p.is.1); null = λ t. absurd t }

-- the cast of n units
pub cast_units : (w : ℕ) (x : Float) (n : ℕ) → Units binary32 x n → to_unsigned w x ≡ min (n / 2 ^ 149) (2 ^ w - 1)
cast_units w x n p = go p.sign p.is p.null
  where
    none : (k : ℕ) → 0 ≡ min 0 k
    none k = omega arith

    go : (s : Bool) → HasValue x s n (2 ^ 149) → (T s → n ≡ 0) → to_unsigned w x ≡ min (n / 2 ^ 149) (2 ^ w - 1)
    go true v z =
        negative_to_unsigned w x n (2 ^ 149) v ∙ none (2 ^ w - 1) ∙ ap (λ (k : ℕ). min k (2 ^ w - 1)) (sym (ap (λ (k : ℕ). k / 2 ^ 149) (z tt) ∙ zero-div (2 ^ 149)))
    go false v z = value_to_unsigned w x n (2 ^ 149) (pow_pos 149) v

module _ {x : Float} {n : ℕ} (t : T (fits binary32 x)) (p : Units binary32 x n) where
  -- what is left of x when its ones are taken off
  left_units : (y : Float) → Units binary32 y (n / 2 ^ 149 * 2 ^ 149) → Units binary32 (sub binary32 x y) (n % 2 ^ 149)
  left_units y q =
      let e = remains n (2 ^ 149) in
      subst (Units binary32 (sub binary32 x y)) e
      (sub_exact p q t (div-mul-le_self n (2 ^ 149)) (sub_grid (grid_of p t) (n / 2 ^ 149) 149 (le_trans (le_of_eq e) (le_trans (le_of_lt (mod-lt n (pow_pos 149))) (lit≤ tt)))))

  abbrev rest : Float
  rest = sub binary32 x (floor_of x)

  rest_units : Units binary32 rest (n % 2 ^ 149)
  rest_units = left_units (floor_of x) (floor_units x n t p)

  pub rest_sign : sign_of rest ≡ false
  rest_sign =
      sub_sign p (floor_units x n t p) (div-mul-le_self n (2 ^ 149)) ∙ ap (λ (s : Bool). sign_of x && not s) (floor_sign x t) ∙ unlike_itself (sign_of x)

  pub rest_low : T (le zero32 rest)
  rest_low = subst T (sym (le_units (zero_units binary32 false) rest_units)) (le→leb 0 (n % 2 ^ 149) zero-le)

  pub rest_high : T (lt rest one32)
  rest_high = subst T (sym (lt_units rest_units (one_units binary32))) (lt→ltb (n % 2 ^ 149) (2 ^ 149) (mod-lt n (pow_pos 149)))

  -- ---- with the floor as a whole number
  module _ (h : n / 2 ^ 149 ≤ 2 ^ 24) where
    abbrev index : ℕ
    index = as_whole 64 (floor_of x)

    index_is : index ≡ n / 2 ^ 149
    index_is = cast_is (n / 2 ^ 149) h (units-is (n / 2 ^ 149) h (floor_units x n t p))

    index_units : Units binary32 (as_float index) (n / 2 ^ 149 * 2 ^ 149)
    index_units = subst (λ (k : ℕ). Units binary32 (as_float k) (n / 2 ^ 149 * 2 ^ 149)) (sym index_is) (float_is_units (n / 2 ^ 149) h)

    abbrev sum : Float
    sum = add binary32 (as_float index) rest

    sum_units : Units binary32 sum n
    sum_units =
        let e = div-add-mod' n (2 ^ 149) in
        subst (Units binary32 sum) e
        (add_exact index_units rest_units (subst (Grid binary32) (sym e) (grid_of p t)) (subst (λ (z : ℕ). z < overflow binary32) (sym e) (under_of p t)))

    sum_sign : sign_of sum ≡ false
    sum_sign = add_sign index_units rest_units ∙ ap (λ (s : Bool). s && sign_of rest) (float_sign index)

    pub parts_sum : sum ≡ abs_of x
    parts_sum = units_unique (add-fits binary32 (as_float index) rest) (size_fits binary32 x t) (sum_sign ∙ sym (size_sign x)) sum_units (size_units x n p)

    pub parts_equal : eq sum x ≡ true
    parts_equal = eq_units sum_units p ∙ is_true (eqb n n) (eq→eqb {a = n} refl)

    -- what is left of -0 is -0, and the sum with 0 clears its sign
    taken_off : add binary32 (sub binary32 x (as_float index)) zero32 ≡ rest
    taken_off =
        let d = sub binary32 x (as_float index) in
        let u = left_units (as_float index) index_units in
        let f = sub-fits binary32 x (as_float index) in
        let z = zero_units binary32 false in
        let e = add-zero (n % 2 ^ 149) in
        units_unique (add-fits binary32 d zero32) (sub-fits binary32 x (floor_of x)) (add_sign u z ∙ and-false (sign_of d) ∙ sym rest_sign)
        (subst (Units binary32 (add binary32 d zero32)) e
        (add_exact u z (subst (Grid binary32) (sym e) (grid_of u f)) (subst (λ (k : ℕ). k < overflow binary32) (sym e) (under_of u f)))) rest_units

  -- of a whole number nothing remains, and from 2 ^ 23 on there are no others
  pub whole_rest : n % 2 ^ 149 ≡ 0 → rest ≡ zero32
  whole_rest z = units_unique (sub-fits binary32 x (floor_of x)) (zero-fits binary32 false) rest_sign (subst (Units binary32 rest) z rest_units) (zero_units binary32 false)

  large_rest : 2 ^ 23 * 2 ^ 149 ≤ n → rest ≡ zero32
  large_rest h =
      let own : x ≡ floor_of x =
      above_large x t (lt_units (zero_units binary32 false) p ∙ lt-ltb 0 n (lt_of_lt_of_le (lit< tt) h)) (lt_units p (power_units binary32 23) ∙ le-ltb n (2 ^ 23 * 2 ^ 149) h) in
      let q : Units binary32 x (n / 2 ^ 149 * 2 ^ 149) = subst (λ (y : Float). Units binary32 y (n / 2 ^ 149 * 2 ^ 149)) (sym own) (floor_units x n t p) in
      let same : n ≡ n / 2 ^ 149 * 2 ^ 149 = value_size x p.sign n q.sign (n / 2 ^ 149 * 2 ^ 149) (2 ^ 149) p.is q.is in
      whole_rest (sym (remains n (2 ^ 149)) ∙ ap (λ (k : ℕ). n - k) (sym same) ∙ sub_self n)

-- ---- by the whole number that a value from 0 on casts to
cast_finite : (x : Float) → T (le zero32 x) → as_whole 64 (floor_of x) < 2 ^ 64 - 1 → T (finite x)
unfolding le lt eq floor_of to_unsigned
cast_finite nan l h = absurd l
cast_finite (inf true) l h = absurd l
cast_finite (inf false) l h = absurd (lt_irrefl (2 ^ 64 - 1) h)
cast_finite (fin s m e) l h = tt

module _ (x : Float) (k : ℕ) (t : T (fits binary32 x)) (l : T (le zero32 x)) (e : k ≡ as_whole 64 (floor_of x)) where
  pub rest_by_index : k < 2 ^ 24 → add binary32 (sub binary32 x (as_float k)) zero32 ≡ sub binary32 x (floor_of x)
  rest_by_index h =
      let w = at_least t (cast_finite x l (small h)) (zero_units binary32 false) l in
      let c = e ∙ floor_cast 64 x t ∙ cast_units 64 x w.count w.is in
      ap (λ (i : ℕ). add binary32 (sub binary32 x (as_float i)) zero32) e ∙ taken_off t w.is (under k (w.count / 2 ^ 149) h c)
    where
      small : k < 2 ^ 24 → as_whole 64 (floor_of x) < 2 ^ 64 - 1
      small h = omega (arith, h, e)

      under : (k q : ℕ) → k < 2 ^ 24 → k ≡ min q (2 ^ 64 - 1) → q ≤ 2 ^ 24
      under k q h e = omega arith

  pub rest_from_whole : 2 ^ 24 ≤ k → k < 2 ^ 64 - 1 → zero32 ≡ sub binary32 x (floor_of x)
  rest_from_whole h u =
      let w = at_least t (cast_finite x l (small u)) (zero_units binary32 false) l in
      let c = e ∙ floor_cast 64 x t ∙ cast_units 64 x w.count w.is in
      sym (large_rest t w.is ((le-div_iff_mul-le (pow_pos 149)).0 (over k (w.count / 2 ^ 149) h c)))
    where
      small : k < 2 ^ 64 - 1 → as_whole 64 (floor_of x) < 2 ^ 64 - 1
      small h = omega (arith, h, e)

      over : (k q : ℕ) → 2 ^ 24 ≤ k → k ≡ min q (2 ^ 64 - 1) → 2 ^ 23 ≤ q
      over k q h e = omega arith
