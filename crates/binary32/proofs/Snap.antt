-- Adding 2 ^ (prec - 1) and taking it away again leaves the whole number nearest to x, a tie to the even one, for 0 ≤ x < 2 ^ (prec - 1).
-- One comparison makes x's whole part of it. Assumes nothing.
use Rattle.std.proofs.Common.{◌≡◌, ℕ, suc, ◌+◌, ◌-◌, ◌*◌, ◌/◌, ◌%◌, ◌^◌, ◌<◌, ◌≤◌, Bool, true, false, cond, not, ◌&&◌, T, pos, sym, refl, ap, ◌∙◌, subst, ap₂, le_trans, le_of_eq, lt_of_lt_of_le, lt_of_le_of_lt, add-le-add, mul-le-mul_right, suc-mul, div-lt_iff_lt-mul, add-mul, le_antisymm, suc-add, le-div_iff_mul-le, le-add_left, add-sub_cancel, arith, ltb→lt, nltb→le, pow_pos, pow-add}
use Prim.Native.Nat.{compare, Ordering}
use native.Mathlib.Nat.{add-lt-add_of_lt_of_le, two-pow-succ, add-mul-div_right, add-mul-mod_self_right}
use mathlib.Core.Bool.{and-false}
use lib.Ieee.{Float, fin, Format, binary32, binary64, prec, low, nearest, round, add, sub, lt, fits}
use lib.Ieee.Fits.{two, two-le_pos, nearest-le, cond-fits, add-fits, sub-fits}
use lib.Ieee.Nearest.{closest, nearest-ge}
use lib.Ieee.Scale.{overflow}
use Rattle.binary32.proofs.Truth.{cond_split}
use Rattle.binary32.specs.Leaves.{sign_of}
use Rattle.binary32.proofs.Units.{Grid, grid_multiple, whole_under, Units, lt_units, power_units, one, one_units}
use Rattle.binary32.proofs.Rounding.{rd, rd_at, whole_round}
use Rattle.binary32.proofs.Sums.{add_sign, sub_sign, add_units, sub_exact, less_one}

-- From this value on, up to 2 ^ prec, the format holds just the whole numbers.
abbrev pub wholes : Format → Float
wholes f = fin false 1 (pos (prec f - 1))

abbrev pub snapped : Format → Float → Float
snapped f x = sub f (add f x (wholes f)) (wholes f)

abbrev pub floored : Format → Float → Float
floored f x = cond (lt x (snapped f x)) (sub f (snapped f x) one) (snapped f x)

-- ---- numbers
nearest_add : (q m : ℕ) (o : Ordering) → m % 2 ≡ 0 → nearest (q + m) o ≡ nearest q o + m
nearest_add q m Ordering.lt e = refl
nearest_add q m Ordering.eq e = go q m e
  where
    go : (q m : ℕ) → m % 2 ≡ 0 → q + m + (q + m) % 2 ≡ q + q % 2 + m
    go q m e = omega arith
nearest_add q m Ordering.gt e = sym (suc-add q m)

-- an even whole number added to a fraction is added to the nearest whole number
closest_add : (n m u : ℕ) → 0 < u → m % 2 ≡ 0 → closest (n + m * u) u ≡ closest n u + m
closest_add n m u h e =
    ap₂ (λ (w r : ℕ). nearest w (compare (r * 2) u)) (add-mul-div_right n m h) (add-mul-mod_self_right n m u) ∙ nearest_add (n / u) m (compare (n % u * 2) u) e

even : (f : Format) → 2 ^ (prec f - 1) % 2 ≡ 0
even binary32 = refl
even binary64 = refl

twice : (f : Format) → 2 ^ (prec f - 1) + 2 ^ (prec f - 1) ≡ 2 ^ prec f
twice f = sym (two-pow-succ (prec f - 1)) ∙ ap (λ (k : ℕ). 2 ^ k) (go (prec f) (two-le_pos (prec f) (two f)))
  where
    go : (p : ℕ) → 0 < p → suc (p - 1) ≡ p
    go p h = omega arith

module _ {f : Format} {x : Float} {n : ℕ} (p : Units f x n) (h : n < 2 ^ (prec f - 1) * 2 ^ low f) where
  abbrev L : ℕ
  L = 2 ^ low f

  unit_pos : 0 < L
  unit_pos = pow_pos (low f)

  abbrev P : ℕ
  P = 2 ^ (prec f - 1)

  abbrev c : ℕ
  c = closest n L

  above : n / L ≤ c
  above = nearest-ge (n / L) (compare (n % L * 2) L)

  near : c ≤ suc (n / L)
  near = nearest-le (n / L) (compare (n % L * 2) L)

  small : c ≤ P
  small = le_trans near ((div-lt_iff_lt-mul unit_pos).1 h)

  few : c ≤ 2 ^ prec f
  few = le_trans small (le_trans (le-add_left P P) (le_of_eq (twice f)))

  rounded : rd f (n + P * L) ≡ (c + P) * L
  rounded =
      rd_at f (n + P * L) (low f) (le_trans (le_of_eq (pow-add 2 (prec f - 1) (low f))) (le-add_left (P * L) n))
      (lt_of_lt_of_le (add-lt-add_of_lt_of_le h (le_of_eq refl)) (le_of_eq (sym (add-mul P P L) ∙ ap (λ (z : ℕ). z * L) (twice f) ∙ sym (pow-add 2 (prec f) (low f)))))
      ∙ ap (λ (z : ℕ). z * L) (closest_add n P L unit_pos (even f))

  fits_in : (c + P) * L < overflow f
  fits_in = whole_under f (c + P) (le_trans (add-le-add small (le_of_eq refl)) (le_of_eq (twice f)))

  lifted : Units f (add f x (wholes f)) ((c + P) * L)
  lifted = subst (Units f (add f x (wholes f))) rounded (add_units p (power_units f (prec f - 1)) (lt_of_le_of_lt (le_of_eq rounded) fits_in))

  back_down : (c + P) * L - P * L ≡ c * L
  back_down = ap (λ (z : ℕ). z - P * L) (add-mul c P L) ∙ add-sub_cancel (c * L) (P * L)

  over : P * L ≤ (c + P) * L
  over = mul-le-mul_right L (le-add_left P c)

  pub snap_units : Units f (snapped f x) (closest n (2 ^ low f) * 2 ^ low f)
  snap_units =
      subst (Units f (snapped f x)) back_down
      (sub_exact lifted (power_units f (prec f - 1)) (add-fits f x (wholes f)) over (subst (Grid f) (sym back_down) (grid_multiple f c (low f) few)))

  pub snap_sign : sign_of (snapped f x) ≡ false
  snap_sign =
      sub_sign lifted (power_units f (prec f - 1)) over
      ∙ ap (λ (s : Bool). s && true) (add_sign p (power_units f (prec f - 1)) ∙ and-false (sign_of x))

  snap_fits : T (fits f (snapped f x))
  snap_fits = sub-fits f (add f x (wholes f)) (wholes f)

  pub snap_is : snapped f x ≡ round f false (closest n (2 ^ low f)) 1
  snap_is = whole_round c snap_fits snap_sign snap_units

  -- ---- the whole part
  over-is : T (lt x (snapped f x)) → c * L ≡ n / L * L + L
  over-is t =
      ap (λ (z : ℕ). z * L) (le_antisymm near ((div-lt_iff_lt-mul unit_pos).1 (ltb→lt n (c * L) (subst T (lt_units p snap_units) t)))) ∙ suc-mul (n / L) L

  one_in : T (lt x (snapped f x)) → L ≤ c * L
  one_in t = le_trans (le-add_left L (n / L * L)) (le_of_eq (sym (over-is t)))

  pub floor_over : T (lt x (snapped f x)) → Units f (sub f (snapped f x) one) (n / 2 ^ low f * 2 ^ low f)
  floor_over t =
      subst (Units f (sub f (snapped f x) one)) (ap (λ (z : ℕ). z - L) (over-is t) ∙ add-sub_cancel (n / L * L) L)
      (less_one snap_fits snap_units (one_in t) (mul-le-mul_right L few))

  pub floor_under : T (not (lt x (snapped f x))) → Units f (snapped f x) (n / 2 ^ low f * 2 ^ low f)
  floor_under t =
      let down : c ≤ n / L = (le-div_iff_mul-le unit_pos).1 (nltb→le n (c * L) (subst (λ (b : Bool). T (not b)) (lt_units p snap_units) t)) in
      subst (λ (w : ℕ). Units f (snapped f x) (w * L)) (le_antisymm down above) snap_units

  pub floor_units : Units f (floored f x) (n / 2 ^ low f * 2 ^ low f)
  floor_units = cond_split (λ (z : Float). Units f z (n / L * L)) (lt x (snapped f x)) (sub f (snapped f x) one) (snapped f x) floor_over floor_under

  pub floor_is : floored f x ≡ round f false (n / 2 ^ low f) 1
  floor_is = whole_round (n / L) (cond-fits f (lt x (snapped f x)) (sub f (snapped f x) one) (snapped f x) (sub-fits f (snapped f x) one) snap_fits) sign floor_units
    where
      sign : sign_of (floored f x) ≡ false
      sign =
          cond_split (λ (z : Float). sign_of z ≡ false) (lt x (snapped f x)) (sub f (snapped f x) one) (snapped f x)
          (λ t. sub_sign snap_units (one_units f) (one_in t) ∙ ap (λ (s : Bool). s && true) snap_sign)
          (λ t. snap_sign)
