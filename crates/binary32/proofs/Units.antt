-- Values as whole numbers of units, the format's smallest value 2 ^ -low: a value that is not below zero is a natural number of units, and a test of two such values is one of natural numbers.
-- 1 is 2 ^ low units. -0 counts as 0 units. Assumes nothing.
use Rattle.std.proofs.Common.{◌≡◌, ℕ, zero, suc, ◌+◌, ◌-◌, ◌*◌, ◌%◌, ◌^◌, ◌<◌, ◌≤◌, Bool, true, false, ◌&&◌, T, eqb, ltb, leb, ℤ, pos, negsuc, sym, refl, ap, ◌∙◌, subst, ap₂, inl, inr, zero-le, le_trans, le_of_eq, lt_of_lt_of_le, le_of_suc-le-suc, lt_of_le_of_lt, add-zero, lt_irrefl, mul-le-mul_right, mul_assoc, mul_comm, lt_of_mul-lt-mul_right, eq-or-lt_of_le, mul-lt-mul_of_pos_right, one-mul, lt_of_not-le, zero-add, zero-mul, mul-one, mul-add, mul_right_comm, not-le_of_lt, lit<, ltb→lt, leb→le, pow_pos, pow-add, le-ltb, le-leb}
use native.Mathlib.Nat.{two-pow-succ}
use mathlib.Core.Bool.{and-true, and_self}
use lib.Dec.{eqb-suc-zero, leb-suc-zero}
use lib.Pow.{pow-lt}
use lib.Ieee.{Float, nan, inf, fin, Format, binary32, binary64, prec, emax, low, up, down, lt, eq, le, below, level, fits}
use lib.Ieee.Fits.{two, two-le_pos, and_l, and_r}
use lib.Ieee.Digits.{back}
use lib.Ieee.Exact.{HasValue}
use lib.Ieee.Scale.{finite, overflow}
use Rattle.binary32.specs.Leaves.{sign_of}
use Rattle.binary32.proofs.Values.{value_sign, value_finite, value_size, value_same, lt_value, eq_value, le_value, most, value_unique}

-- ---- the numbers of units that a format holds

-- n has no more digits than the format keeps, but for zeros at its end
pub record Grid (f : Format) (n : ℕ) : Type 0 where
  pub digits : ℕ
  pub shift : ℕ
  pub few : digits < 2 ^ prec f
  pub is : n ≡ digits * 2 ^ shift

-- q may be 2 ^ prec itself, which has one digit and zeros
pub grid_multiple : (f : Format) (q j : ℕ) → q ≤ 2 ^ prec f → Grid f (q * 2 ^ j)
grid_multiple f q j h = elim (eq-or-lt_of_le h) [
  | inl e ↦
      record {
        digits = 1;
        shift = prec f + j;
        few = pow-lt (two-le_pos (prec f) (two f));
        is = ap (λ (z : ℕ). z * 2 ^ j) e ∙ sym (pow-add 2 (prec f) j) ∙ sym (one-mul (2 ^ (prec f + j)));
      }
  | inr l ↦ record { digits = q; shift = j; few = l; is = refl }
]

-- whole numbers up to 2 ^ prec are far below overflow
pub whole_under : (f : Format) (w : ℕ) → w ≤ 2 ^ prec f → w * 2 ^ low f < overflow f
whole_under f w h = lt_of_le_of_lt (mul-le-mul_right (2 ^ low f) h) (lt_of_le_of_lt (le_of_eq (sym (pow-add 2 (prec f) (low f)))) (pow-lt (room f)))
  where
    room : (f : Format) → prec f + low f < low f + suc (emax f)
    room binary32 = lit< tt
    room binary64 = lit< tt

pub grid_double : {f : Format} {n : ℕ} → Grid f n → Grid f (n + n)
grid_double {f} {n} g =
    record {
      digits = g.digits;
      shift = suc g.shift;
      few = g.few;
      is = ap₂ (λ (x y : ℕ). x + y) g.is g.is ∙ sym (mul-add g.digits (2 ^ g.shift) (2 ^ g.shift)) ∙ ap (λ (z : ℕ). g.digits * z) (sym (two-pow-succ g.shift));
    }

pub pow_over : (q j k : ℕ) → k ≤ j → q * 2 ^ j ≡ q * 2 ^ (j - k) * 2 ^ k
pow_over q j k h = ap (λ (z : ℕ). q * 2 ^ z) (sym (back j k h)) ∙ ap (λ (z : ℕ). q * z) (pow-add 2 (j - k) k) ∙ sym (mul_assoc q (2 ^ (j - k)) (2 ^ k))

-- x is a number of units in size that is on the grid and below overflow
pub record Held (f : Format) (x : Float) : Type 0 where
  pub count : ℕ
  pub is : HasValue x (sign_of x) count (2 ^ low f)
  pub grid : Grid f count
  pub under : count < overflow f

pow_le_back : (i j : ℕ) → 2 ^ i ≤ 2 ^ j → i ≤ j
pow_le_back i j h = le_of_suc-le-suc (lt_of_not-le (λ (g : suc j ≤ i). not-le_of_lt (pow-lt g) h))

-- 2 ^ e is a power of two of units
power_of : (e : ℤ) (l : ℕ) → down e ≤ 2 ^ l → (i : ℕ) × (up e * 2 ^ l ≡ 2 ^ i * down e)
power_of (pos k) l h = (k + l, sym (pow-add 2 k l) ∙ sym (mul-one (2 ^ (k + l))))
power_of (negsuc k) l h = (l - suc k, one-mul (2 ^ l) ∙ ap (λ (z : ℕ). 2 ^ z) (sym (back l (suc k) (pow_le_back (suc k) l h))) ∙ pow-add 2 (l - suc k) (suc k))

held_at : (f : Format) (s : Bool) (m : ℕ) (e : ℤ) → m < 2 ^ prec f → down e ≤ 2 ^ low f → m * up e < 2 ^ suc (emax f) * down e → Held f (fin s m e)
held_at f s m e few deep small =
    let i = (power_of e (low f) deep).0 in
    let n = m * 2 ^ i in
    let v : m * up e * 2 ^ low f ≡ n * down e = mul_assoc m (up e) (2 ^ low f) ∙ ap (λ (z : ℕ). m * z) (power_of e (low f) deep).1 ∙ sym (mul_assoc m (2 ^ i) (down e)) in
    let top : 2 ^ suc (emax f) * down e * 2 ^ low f ≡ overflow f * down e =
    mul_right_comm (2 ^ suc (emax f)) (down e) (2 ^ low f) ∙ ap (λ (z : ℕ). z * down e) (mul_comm (2 ^ suc (emax f)) (2 ^ low f) ∙ sym (pow-add 2 (low f) (suc (emax f)))) in
    record {
      count = n;
      is = (refl, v);
      grid = record { digits = m; shift = i; few = few; is = refl };
      under = lt_of_mul-lt-mul_right (down e) (lt_of_le_of_lt (le_of_eq (sym v)) (lt_of_lt_of_le (mul-lt-mul_of_pos_right small (pow_pos (low f))) (le_of_eq top)));
    }

pub on_grid : (f : Format) (x : Float) → T (finite x) → T (fits f x) → Held f x
unfolding fits
on_grid f nan t h = absurd t
on_grid f (inf s) t h = absurd t
on_grid f (fin s zero e) t h =
    record {
      count = 0;
      is = (refl, ap (λ (z : ℕ). z * 2 ^ low f) (zero-mul (up e)) ∙ zero-mul (2 ^ low f) ∙ sym (zero-mul (down e)));
      grid = record { digits = 0; shift = 0; few = pow_pos (prec f); is = refl };
      under = pow_pos (low f + suc (emax f));
    }
on_grid f (fin s (suc m) e) t h =
    let a : Bool = eqb (suc m % 2) 1 in
    let b : Bool = ltb (suc m) (2 ^ prec f) in
    let c : Bool = leb (down e) (2 ^ low f) in
    let d : Bool = ltb (suc m * up e) (2 ^ suc (emax f) * down e) in
    held_at f s (suc m) e (ltb→lt _ _ (and_r a b (and_l (a && b) c (and_l (a && b && c) d h)))) (leb→le _ _ (and_r (a && b) c (and_l (a && b && c) d h)))
    (ltb→lt _ _ (and_r (a && b && c) d h))

-- by any number of units that x is
module _ (f : Format) (x : Float) (s : Bool) (n : ℕ) (t : T (fits f x)) (v : HasValue x s n (2 ^ low f)) where
  held : Held f x
  held = on_grid f x (value_finite x s n (2 ^ low f) v) t

  count-is : held.count ≡ n
  count-is = value_size x (sign_of x) held.count s n (2 ^ low f) held.is v

  pub value_grid : Grid f n
  value_grid = subst (Grid f) count-is held.grid

  pub value_under : n < overflow f
  value_under = subst (λ (z : ℕ). z < overflow f) count-is held.under

-- ---- a value by its number of units

-- x is not below zero, and is n units
pub record Units (f : Format) (x : Float) (n : ℕ) : Type 0 where
  pub sign : Bool
  pub is : HasValue x sign n (2 ^ low f)
  pub null : T sign → n ≡ 0

signless_below : (s : Bool) (a : ℕ) (t : Bool) (b : ℕ) → (T s → a ≡ 0) → (T t → b ≡ 0) → below s a t b ≡ ltb a b
signless_below false a false b p q = refl
signless_below false a true b p q = sym (le-ltb a b (le_trans (le_of_eq (q tt)) zero-le))
signless_below true a false b p q = ap (λ (z : ℕ). ltb 0 (z + b)) (p tt) ∙ ap (ltb 0) (zero-add b) ∙ ap (λ (z : ℕ). ltb z b) (sym (p tt))
signless_below true a true b p q = ap₂ (λ (x y : ℕ). ltb y x) (p tt) (q tt) ∙ sym (ap₂ ltb (p tt) (q tt))

signless_most : (s : Bool) (a : ℕ) (t : Bool) (b : ℕ) → (T s → a ≡ 0) → (T t → b ≡ 0) → most s a t b ≡ leb a b
signless_most false a false b p q = refl
signless_most false a true b p q = ap (λ (z : ℕ). eqb (a + z) 0) (q tt) ∙ ap (λ (z : ℕ). eqb z 0) (add-zero a) ∙ zero_test a ∙ ap (leb a) (sym (q tt))
  where
    zero_test : (a : ℕ) → eqb a 0 ≡ leb a 0
    zero_test zero = refl
    zero_test (suc a) = eqb-suc-zero a ∙ sym (leb-suc-zero a)
signless_most true a false b p q = sym (le-leb a b (le_trans (le_of_eq (p tt)) zero-le))
signless_most true a true b p q = ap₂ (λ (x y : ℕ). leb y x) (p tt) (q tt) ∙ sym (ap₂ leb (p tt) (q tt))

signless_level : (s : Bool) (a : ℕ) (t : Bool) (b : ℕ) → (T s → a ≡ 0) → (T t → b ≡ 0) → level s a t b ≡ eqb a b
signless_level false a false b p q = and-true (eqb a b)
signless_level false a true b p q = ap (λ (z : ℕ). eqb a z && eqb a 0) (q tt) ∙ and_self (eqb a 0) ∙ ap (eqb a) (sym (q tt))
signless_level true a false b p q = ap (λ (z : ℕ). eqb a b && eqb z 0) (p tt) ∙ and-true (eqb a b)
signless_level true a true b p q = and-true (eqb a b)

module _ {f : Format} {x y : Float} {a b : ℕ} (p : Units f x a) (q : Units f y b) where
  pub lt_units : lt x y ≡ ltb a b
  lt_units = lt_value x y p.sign a q.sign b (2 ^ low f) (pow_pos (low f)) p.is q.is ∙ signless_below p.sign a q.sign b p.null q.null

  pub le_units : le x y ≡ leb a b
  le_units = le_value x y p.sign a q.sign b (2 ^ low f) (pow_pos (low f)) p.is q.is ∙ signless_most p.sign a q.sign b p.null q.null

  pub eq_units : eq x y ≡ eqb a b
  eq_units = eq_value x y p.sign a q.sign b (2 ^ low f) (pow_pos (low f)) p.is q.is ∙ signless_level p.sign a q.sign b p.null q.null

-- ---- what a value that is n units has besides
module _ {f : Format} {x : Float} {n : ℕ} (p : Units f x n) where
  pub units_sign : sign_of x ≡ p.sign
  units_sign = value_sign x p.sign n (2 ^ low f) p.is

  pub units_finite : T (finite x)
  units_finite = value_finite x p.sign n (2 ^ low f) p.is

  pub units_above_sign : 0 < n → sign_of x ≡ false
  units_above_sign h = units_sign ∙ go p.sign p.null
    where
      go : (s : Bool) → (T s → n ≡ 0) → s ≡ false
      go true z = absurd (lt_irrefl 0 (subst (λ (k : ℕ). 0 < k) (z tt) h))
      go false z = refl

  pub units_above_value : 0 < n → HasValue x false n (2 ^ low f)
  units_above_value h = subst (λ (s : Bool). HasValue x s n (2 ^ low f)) (sym units_sign ∙ units_above_sign h) p.is

  pub grid_of : T (fits f x) → Grid f n
  grid_of t = value_grid f x p.sign n t p.is

  pub under_of : T (fits f x) → n < overflow f
  under_of t = value_under f x p.sign n t p.is

pub units_unique : {f : Format} {x y : Float} {n : ℕ} → T (fits f x) → T (fits f y) → sign_of x ≡ sign_of y → Units f x n → Units f y n → x ≡ y
units_unique {f} {x} {y} {n} h k e p q =
    value_unique f x y p.sign n (2 ^ low f) (pow_pos (low f)) h k p.is
    (subst (λ (s : Bool). HasValue y s n (2 ^ low f)) (sym (units_sign q) ∙ sym e ∙ units_sign p) q.is)

-- above 0 there is but one sign
pub units_unique_above : {f : Format} {x y : Float} {n : ℕ} → 0 < n → T (fits f x) → T (fits f y) → Units f x n → Units f y n → x ≡ y
units_unique_above h t u p q = units_unique t u (units_above_sign p h ∙ sym (units_above_sign q h)) p q

-- ---- values whose units are known
pub zero_units : (f : Format) (s : Bool) → Units f (fin s 0 (pos 0)) 0
zero_units f s = record { sign = s; is = (refl, zero-mul (2 ^ low f)); null = λ t. refl }

pub zero-fits : (f : Format) (s : Bool) → T (fits f (fin s 0 (pos 0)))
unfolding fits
zero-fits f s = tt

pub whole_units : (f : Format) (x : Float) (n : ℕ) → HasValue x false n 1 → Units f x (n * 2 ^ low f)
whole_units f x n h = record { sign = false; is = value_same x false n 1 (n * 2 ^ low f) (2 ^ low f) (pow_pos 0) (sym (mul-one (n * 2 ^ low f))) h; null = λ t. absurd t }

pub power_units : (f : Format) (k : ℕ) → Units f (fin false 1 (pos k)) (2 ^ k * 2 ^ low f)
power_units f k = whole_units f (fin false 1 (pos k)) (2 ^ k) (refl, ap (λ (z : ℕ). z * 1) (one-mul (2 ^ k)))

abbrev pub one : Float
one = fin false 1 (pos 0)

pub one_units : (f : Format) → Units f one (2 ^ low f)
one_units f = subst (Units f one) (one-mul (2 ^ low f)) (power_units f 0)
