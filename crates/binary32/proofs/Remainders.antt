-- `%` is exact: the remainder of a units by b units is a % b units, with the dividend's sign, and smaller than the divisor in size.
-- Below the divisor it is the dividend, and from the divisor to below twice the divisor it is the difference. Assumes nothing.
use Rattle.std.proofs.Common.{◌≡◌, ℕ, zero, suc, ◌+◌, ◌-◌, ◌*◌, ◌%◌, ◌^◌, ◌<◌, ◌≤◌, Bool, true, false, not, ◌||◌, T, eqb, ltb, leb, pos, sym, refl, ap, ◌∙◌, subst, ap₂, inl, inr, true≢false, zero-le, le_trans, le_of_eq, lt_of_lt_of_le, lt_of_le_of_lt, le_of_lt, lt_irrefl, mod-lt, mod-eq_of_lt, zero-lt-suc, mul-pos, lt_of_not-le, zero-mul, not-le_of_lt, le-add_left, two-mul, arith, eqb→eq, ltb→lt, lt→ltb, leb→le, nltb→le, pow_pos}
use native.Mathlib.Nat.{mod-le, mod-eq-sub-mod, zero-mod, mul-mod_left}
use mathlib.Core.Bool.{beq}
use lib.Dec.{nleb→lt, not_T}
use lib.Ieee.{Float, nan, inf, fin, Format, low, up, down, round, rem, sub, add, neg, lt, eq, le, below, level, fits, is_nan}
use lib.Ieee.Fits.{and_l, up_pos}
use lib.Ieee.Exact.{HasValue}
use lib.Ieee.Positive.{first_pos}
use lib.Ieee.Scale.{finite, overflow}
use Rattle.binary32.proofs.Truth.{yes_or_no}
use Rattle.binary32.specs.Leaves.{sign_of, abs_of}
use Rattle.binary32.proofs.Values.{value_nonzero, Common, common, lt_value, le_value, most, mod_scale, rem_value, sub_value}
use Rattle.binary32.proofs.Units.{Grid, grid_multiple, grid_double, pow_over, on_grid, value_grid, value_under, Units, lt_units, grid_of, under_of, units_above_value, zero_units}
use Rattle.binary32.proofs.Rounding.{rd, rd_ge, round_grid, round_held, round_sign, round_not_nan, round-zero}
use Rattle.binary32.proofs.Between.{lt→le, le_le_trans, From, at_least, Whole, whole, below_finite}
use Rattle.binary32.proofs.Sums.{sum_under, sub_units, add_exact}

pub rem_grid : {f : Format} {a b : ℕ} → Grid f a → Grid f b → 0 < b → Grid f (a % b)
rem_grid {f} {a} {b} g h B = elim (yes_or_no (leb j k)) [ inl t ↦ fine (leb→le j k t) | inr t ↦ coarse (le_of_lt (nleb→lt j k t)) ]
  where
    q : ℕ
    q = g.digits

    j : ℕ
    j = g.shift

    r : ℕ
    r = h.digits

    k : ℕ
    k = h.shift

    R : 0 < r
    R = first_pos r (2 ^ k) (lt_of_lt_of_le B (le_of_eq h.is))

    fine : j ≤ k → Grid f (a % b)
    fine l =
        let e : a % b ≡ q % (r * 2 ^ (k - j)) * 2 ^ j =
        ap₂ (λ (x y : ℕ). x % y) g.is (h.is ∙ pow_over r k j l) ∙ mod_scale q (r * 2 ^ (k - j)) (2 ^ j) (mul-pos R (pow_pos (k - j))) (pow_pos j) in
        subst (Grid f) (sym e) (grid_multiple f (q % (r * 2 ^ (k - j))) j (le_trans (mod-le q (r * 2 ^ (k - j))) (le_of_lt g.few)))

    coarse : k ≤ j → Grid f (a % b)
    coarse l =
        let e : a % b ≡ q * 2 ^ (j - k) % r * 2 ^ k = ap₂ (λ (x y : ℕ). x % y) (g.is ∙ pow_over q j k l) h.is ∙ mod_scale (q * 2 ^ (j - k)) r (2 ^ k) R (pow_pos k) in
        subst (Grid f) (sym e) (grid_multiple f (q * 2 ^ (j - k) % r) k (le_trans (le_of_lt (mod-lt (q * 2 ^ (j - k)) R)) (le_of_lt h.few)))

-- of any signs
pub rem_exact : (f : Format) (x y : Float) (s : Bool) (a : ℕ) (t : Bool) (b : ℕ) → T (fits f x) → T (fits f y) → 0 < b
    → HasValue x s a (2 ^ low f) → HasValue y t b (2 ^ low f) → HasValue (rem f x y) s (a % b) (2 ^ low f)
rem_exact f x y s a t b p q B v w =
    subst (λ (z : Float). HasValue z s (a % b) (2 ^ low f)) (sym (rem_value f x y s a t b (2 ^ low f) (pow_pos (low f)) B v w))
    (round_grid s (rem_grid (value_grid f x s a p v) (value_grid f y t b q w) B) (lt_of_le_of_lt (mod-le a b) (value_under f x s a p v)))

pub rem_units : {f : Format} {x y : Float} {a b : ℕ} → T (fits f x) → T (fits f y) → 0 < b → Units f x a → Units f y b → Units f (rem f x y) (a % b)
rem_units {f} {x} {y} {a} {b} t u B p q =
    record {
      sign = p.sign;
      is = rem_exact f x y p.sign a q.sign b t u B p.is q.is;
      null = λ z. ap (λ (n : ℕ). n % b) (p.null z) ∙ zero-mod b;
    }

-- ---- sign and size. The remainder is a NaN just where x is not finite, or y is 0 or a NaN
rem_common : (f : Format) (x y : Float) (c : Common x y) → T (not (eq y (fin false 0 (pos 0)))) → rem f x y ≡ round f (sign_of x) (c.left % c.right) c.over
rem_common f x y c h =
    rem_value f x y (sign_of x) c.left (sign_of y) c.right c.over c.over_pos
    (value_nonzero y (sign_of y) c.right c.over c.over_pos c.is_right h) c.is_left c.is_right

pub rem_not_nan : (f : Format) (x y : Float) → T (finite x) → T (not (is_nan y)) → T (not (eq y (fin false 0 (pos 0)))) → T (not (is_nan (rem f x y)))
unfolding rem is_nan
rem_not_nan f nan y p q h = absurd p
rem_not_nan f (inf s) y p q h = absurd p
rem_not_nan f (fin s m e) nan p q h = absurd q
rem_not_nan f (fin s m e) (inf t) p q h = tt
rem_not_nan f (fin s m e) (fin t n d) p q h =
    let c = common (fin s m e) (fin t n d) tt tt in
    subst (λ (z : Float). T (not (is_nan z))) (sym (rem_common f (fin s m e) (fin t n d) c h)) (round_not_nan f s (c.left % c.right) c.over)

pub rem_operands : (f : Format) (x y : Float) → T (not (is_nan (rem f x y))) → T (finite x) × T (not (is_nan y)) × T (not (eq y (fin false 0 (pos 0))))
unfolding rem is_nan eq
rem_operands f nan y h = absurd h
rem_operands f (inf s) y h = absurd h
rem_operands f (fin s m e) nan h = absurd h
rem_operands f (fin s m e) (inf t) h = (tt, tt, tt)
rem_operands f (fin s m e) (fin t zero d) h = absurd h
rem_operands f (fin s m e) (fin t (suc n) d) h = (tt, tt, not_T (level t a false b) (λ (z : T (level t a false b)). lt_irrefl 0 (lt_of_lt_of_le A (le_of_eq (none z)))))
  where
    a : ℕ
    a = suc n * up d * 1

    b : ℕ
    b = 0 * down d

    A : 0 < a
    A = mul-pos (mul-pos (zero-lt-suc n) (up_pos d)) (zero-lt-suc 0)

    none : T (level t a false b) → a ≡ 0
    none z = eqb→eq a b (and_l (eqb a b) (beq t false || eqb a 0) z) ∙ zero-mul (down d)

pub rem_sign : (f : Format) (x y : Float) → T (not (is_nan (rem f x y))) → sign_of (rem f x y) ≡ sign_of x
unfolding rem is_nan
rem_sign f nan y h = absurd h
rem_sign f (inf s) y h = absurd h
rem_sign f (fin s m e) nan h = absurd h
rem_sign f (fin s m e) (inf t) h = refl
rem_sign f (fin s m e) (fin t n d) h =
    let c = common (fin s m e) (fin t n d) tt tt in
    ap sign_of (rem_common f (fin s m e) (fin t n d) c (rem_operands f (fin s m e) (fin t n d) h).2) ∙ round_sign f s (c.left % c.right) c.over

magnitude_value : (x : Float) (s : Bool) (a c : ℕ) → HasValue x s a c → HasValue (abs_of x) false a c
magnitude_value nan s a c h = h
magnitude_value (inf t) s a c h = h
magnitude_value (fin t m e) s a c h = (refl, h.1)

-- a remainder by a finite y, and y, in units
record Rest (f : Format) (x y : Float) : Type 0 where
  rest : ℕ
  by : ℕ
  less : rest < by
  is_rest : HasValue (rem f x y) (sign_of x) rest (2 ^ low f)
  is_by : HasValue y (sign_of y) by (2 ^ low f)

rest_of : (f : Format) (x y : Float) → T (fits f x) → T (fits f y) → T (finite y) → T (not (is_nan (rem f x y))) → Rest f x y
rest_of f x y t u q h =
    let o = rem_operands f x y h in
    let a = on_grid f x o.0 t in
    let b = on_grid f y q u in
    let B : 0 < b.count = value_nonzero y (sign_of y) b.count (2 ^ low f) (pow_pos (low f)) b.is o.2 in
    record {
      rest = a.count % b.count;
      by = b.count;
      less = mod-lt a.count B;
      is_rest = rem_exact f x y (sign_of x) a.count (sign_of y) b.count t u B a.is b.is;
      is_by = b.is;
    }

pub rem_size : (f : Format) (x y : Float) → T (fits f x) → T (fits f y) → T (not (is_nan (rem f x y))) → T (lt (abs_of (rem f x y)) (abs_of y))
unfolding rem is_nan lt
rem_size f nan y t u h = absurd h
rem_size f (inf s) y t u h = absurd h
rem_size f (fin s m e) nan t u h = absurd h
rem_size f (fin s m e) (inf r) t u h = tt
rem_size f (fin s m e) (fin r n d) t u h =
    let x = fin s m e in
    let y = fin r n d in
    let z = rest_of f x y t u tt h in
    subst T (sym (lt_value (abs_of (rem f x y)) (abs_of y) false z.rest false z.by (2 ^ low f) (pow_pos (low f))
    (magnitude_value (rem f x y) s z.rest (2 ^ low f) z.is_rest) (magnitude_value y r z.by (2 ^ low f) z.is_by)))
    (lt→ltb z.rest z.by z.less)

-- a value of smaller size than y is between -y and y
below_of : (s : Bool) (a b : ℕ) → a < b → T (below s a false b) × T (below true b s a)
below_of true a b h = (lt→ltb 0 (a + b) (omega arith), lt→ltb a b h)
below_of false a b h = (lt→ltb a b h, lt→ltb 0 (b + a) (omega arith))

pub magnitude_lt : (x y : Float) → sign_of y ≡ false → T (lt (abs_of x) (abs_of y)) → T (lt x y) × T (lt (neg y) x)
unfolding lt neg
magnitude_lt nan y e h = absurd h
magnitude_lt (inf s) nan e h = absurd h
magnitude_lt (inf s) (inf t) e h = absurd h
magnitude_lt (inf s) (fin t n d) e h = absurd h
magnitude_lt (fin s m i) nan e h = absurd h
magnitude_lt (fin s m i) (inf true) e h = absurd (true≢false e)
magnitude_lt (fin s m i) (inf false) e h = (tt, tt)
magnitude_lt (fin s m i) (fin true n d) e h = absurd (true≢false e)
magnitude_lt (fin s m i) (fin false n d) e h = below_of s (m * up i * down d) (n * up d * down i) (ltb→lt _ _ h)

-- ---- where no division is needed

-- by any fractions: a dividend smaller than the divisor comes back
pub rem_less : (f : Format) (x y : Float) (s : Bool) (a : ℕ) (t : Bool) (b c : ℕ) → 0 < c → T (fits f x) → HasValue x s a c → HasValue y t b c → a < b → rem f x y ≡ x
rem_less f x y s a t b c C p v w h =
    rem_value f x y s a t b c C (lt_of_le_of_lt zero-le h) v w ∙ ap (λ (z : ℕ). round f s z c) (mod-eq_of_lt h) ∙ round_held f x s a c C p v

pub rem_small : (f : Format) (x y : Float) → T (fits f x) → T (lt (abs_of x) (abs_of y)) → rem f x y ≡ x
unfolding lt rem
rem_small f nan y p h = absurd h
rem_small f (inf s) nan p h = absurd h
rem_small f (inf s) (inf t) p h = absurd h
rem_small f (inf s) (fin t n d) p h = absurd h
rem_small f (fin s m e) nan p h = absurd h
rem_small f (fin s m e) (inf t) p h = refl
rem_small f (fin s m e) (fin t n d) p h =
    let c = common (fin s m e) (fin t n d) tt tt in
    rem_less f (fin s m e) (fin t n d) s c.left t c.right c.over c.over_pos p c.is_left c.is_right
    (ltb→lt c.left c.right
    (subst T
    (lt_value (fin false m e) (fin false n d) false c.left false c.right c.over c.over_pos
    (magnitude_value (fin s m e) s c.left c.over c.is_left) (magnitude_value (fin t n d) t c.right c.over c.is_right))
    h))

nonnegative_below : (s : Bool) (a : ℕ) (t : Bool) (b : ℕ) → T (most false 0 s a) → T (below s a t b) → a < b
nonnegative_below false a false b h k = ltb→lt a b k
nonnegative_below false a true b h k = absurd k
nonnegative_below true a false b h k = omega (arith, eqb→eq, ltb→lt)
nonnegative_below true a true b h k = omega (arith, eqb→eq, ltb→lt)

-- from 0 to below y, y an infinity too
pub rem_below : (f : Format) (x y : Float) → T (fits f x) → T (le (fin false 0 (pos 0)) x) → T (lt x y) → rem f x y ≡ x
unfolding lt le rem
rem_below f nan y p lo hi = absurd hi
rem_below f (inf true) y p lo hi = absurd lo
rem_below f (inf false) nan p lo hi = absurd hi
rem_below f (inf false) (inf t) p lo hi = absurd hi
rem_below f (inf false) (fin t n d) p lo hi = absurd hi
rem_below f (fin s m e) nan p lo hi = absurd hi
rem_below f (fin s m e) (inf t) p lo hi = refl
rem_below f (fin s m e) (fin t n d) p lo hi =
    let x = fin s m e in
    let y = fin t n d in
    let c = common x y tt tt in
    rem_less f x y s c.left t c.right c.over c.over_pos p c.is_left c.is_right
    (nonnegative_below s c.left t c.right
    (subst T (le_value (fin false 0 (pos 0)) x false 0 s c.left c.over c.over_pos (refl, zero-mul c.over) c.is_left) lo)
    (subst T (lt_value x y s c.left t c.right c.over c.over_pos c.is_left c.is_right) hi))

-- b ≤ a < 2 * b
once : (a b : ℕ) → b ≤ a → a < b + b → a % b ≡ a - b
once a b l h = mod-eq-sub-mod l ∙ mod-eq_of_lt (omega arith)

pub rem_once : (f : Format) (x y : Float) (a b c : ℕ) → 0 < c → HasValue x false a c → HasValue y false b c → b ≤ a → a < b + b → rem f x y ≡ sub f x y
rem_once f x y a b c C v w l h =
    rem_value f x y false a false b c C (omega arith) v w
    ∙ ap (λ (z : ℕ). round f false z c) (once a b l h)
    ∙ sym (sub_value f x y false a false b c C v w ∙ sum_under f false a b c l)

-- a multiple of the divisor leaves 0, of the dividend's sign
pub rem_multiple : (f : Format) (x y : Float) (s : Bool) (k : ℕ) (t : Bool) (b c : ℕ) → 0 < c → 0 < b → HasValue x s (k * b) c → HasValue y t b c → rem f x y ≡ fin s 0 (pos 0)
rem_multiple f x y s k t b c C B v w =
    rem_value f x y s (k * b) t b c C B v w ∙ ap (λ (z : ℕ). round f s z c) (mul-mod_left k b) ∙ round-zero f s c C

-- ---- from y to below twice y, y above 0
less_finite : (f : Format) (x y : Float) → T (lt (fin false 0 (pos 0)) y) → T (le (fin false 0 (pos 0)) x) → T (lt (sub f x y) y) → T (finite x)
unfolding lt le sub
less_finite f nan y q l k = absurd l
less_finite f (inf true) y q l k = absurd l
less_finite f (inf false) nan q l k = absurd q
less_finite f (inf false) (inf true) q l k = absurd q
less_finite f (inf false) (inf false) q l k = absurd k
less_finite f (inf false) (fin s n d) q l k = absurd k
less_finite f (fin s m e) y q l k = tt

module _ (f : Format) (x y : Float) (t : T (fits f x)) (u : T (fits f y)) (q : T (lt (fin false 0 (pos 0)) y)) (l : T (le y x)) where
  at_zero : T (le (fin false 0 (pos 0)) y)
  at_zero = lt→le (fin false 0 (pos 0)) y q

  of_x : T (finite x) → From f x 0
  of_x p = at_least t p (zero_units f false) (le_le_trans (fin false 0 (pos 0)) y x at_zero l)

  of_y : (w : From f x 0) → Whole f y 0 w.count
  of_y w = whole u (zero_units f false) w.is at_zero l

  twice_is : (w : From f x 0) → w.count < (of_y w).count + (of_y w).count → rem f x y ≡ sub f x y
  twice_is w h =
      let a = w.count in
      let b = (of_y w).count in
      let B : 0 < b = ltb→lt 0 b (subst T (lt_units (zero_units f false) (of_y w).is) q) in
      rem_once f x y a b (2 ^ low f) (pow_pos (low f)) (units_above_value w.is (lt_of_lt_of_le B (of_y w).to)) (units_above_value (of_y w).is B) (of_y w).to h

  -- 2 * y may overflow
  pub rem_twice : T (lt x (add f y y)) → rem f x y ≡ sub f x y
  rem_twice k = twice_is w less
    where
      w : From f x 0
      w = of_x (below_finite x (fin false 0 (pos 0)) (add f y y) tt (le_le_trans (fin false 0 (pos 0)) y x at_zero l) k)

      a : ℕ
      a = w.count

      b : ℕ
      b = (of_y w).count

      less : a < b + b
      less = elim (yes_or_no (ltb (b + b) (overflow f))) [
        | inl s ↦ ltb→lt a (b + b) (subst T (lt_units w.is (add_exact (of_y w).is (of_y w).is (grid_double (of_y w).grid) (ltb→lt (b + b) (overflow f) s))) k)
        | inr s ↦ lt_of_lt_of_le (under_of w.is t) (nltb→le (b + b) (overflow f) s)
      ]

  -- the same by the rounded difference, which is below y only if the exact one is
  pub rem_twice_less : T (lt (sub f x y) y) → rem f x y ≡ sub f x y
  rem_twice_less k = twice_is w (lt_of_not-le (λ (g : b + b ≤ a). not-le_of_lt under (rd_ge (of_y w).grid (half a b g))))
    where
      w : From f x 0
      w = of_x (less_finite f x y q (le_le_trans (fin false 0 (pos 0)) y x at_zero l) k)

      a : ℕ
      a = w.count

      b : ℕ
      b = (of_y w).count

      under : rd f (a - b) < b
      under = ltb→lt (rd f (a - b)) b (subst T (lt_units (sub_units w.is (of_y w).is t (of_y w).to) (of_y w).is) k)

      half : (a b : ℕ) → b + b ≤ a → b ≤ a - b
      half a b h = omega arith

-- at twice y it is +0
pub rem_double : {f : Format} {y : Float} {b : ℕ} → T (fits f y) → Units f y b → 0 < b → b + b < overflow f → rem f (add f y y) y ≡ fin false 0 (pos 0)
rem_double {f} {y} {b} u p B h =
    let s : Units f (add f y y) (b + b) = add_exact p p (grid_double (grid_of p u)) h in
    rem_multiple f (add f y y) y false 2 false b (2 ^ low f) (pow_pos (low f)) B
    (subst (λ (n : ℕ). HasValue (add f y y) false n (2 ^ low f)) (sym (two-mul b)) (units_above_value s (lt_of_lt_of_le B (le-add_left b b)))) (units_above_value p B)
