-- Floats that are whole numbers up to 2 ^ 24: their sums, differences, products, remainders, tests and casts are those of the whole numbers, whatever the sign of a zero among them.
-- No operand need be written as the format writes it. Assumes nothing.
use Rattle.std.proofs.Common.{◌≡◌, ℕ, ◌+◌, ◌-◌, ◌*◌, ◌%◌, ◌^◌, ◌<◌, ◌≤◌, Bool, true, false, not, ◌&&◌, ◌||◌, T, eqb, ltb, leb, ◌⊎◌, pos, sym, refl, ap, ◌∙◌, subst, inl, inr, true≢false, zero-le, le_trans, mul-le-mul_right, mul_comm, add-mul, lt_of_mul-lt-mul_right, mul-lt-mul_of_pos_right, mul-zero, zero-mul, mul-one, sub-le, arith, lit≤, le→leb, eqb→eq, ltb→lt, lt→ltb, leb→le, pow_pos, le-ltb}
use native.Mathlib.Nat.{mul-sub, eq_of_mul-eq-mul_right, zero-mod, zero-sub, mod-le}
use mathlib.Core.Bool.{beq}
use lib.Ieee.{Float, nan, inf, fin, Format, binary32, low, unlike, round, add, sub, mul, rem, lt, le, eq, is_nan, to_unsigned, of_int}
use lib.Ieee.Fits.{eq→eqb, and_i, and_l, and_r, add-fits, of_int-fits}
use lib.Ieee.Bits.{is_true, is_false}
use lib.Ieee.Back.{round_whole}
use lib.Ieee.Exact.{HasValue}
use lib.Ieee.Scale.{finite, overflow}
use Rattle.binary32.specs.Leaves.{zero32, one32, as_float, as_whole, sign_of, min_of}
use Rattle.binary32.specs.Wholes.{Is, is_whole_in}
use Rattle.binary32.proofs.Truth.{yes, same_test}
use Rattle.binary32.proofs.Values.{finite_not_nan, value_same, value_cross, value_to_unsigned, negative_to_unsigned, Common, common, eq_value, mul_value, rem_value}
use Rattle.binary32.proofs.Units.{Grid, grid_multiple, whole_under, Units, lt_units, le_units, eq_units, units_sign, units_finite, units_unique, zero_units, one_units, whole_units}
use Rattle.binary32.proofs.Rounding.{round_grid, round_sign}
use Rattle.binary32.proofs.Sums.{add_exact, add_sign, sub_round}

-- ---- what equals n units is n units
equal_finite : (x y : Float) → T (finite y) → eq x y ≡ true → T (finite x)
unfolding eq
equal_finite nan y t h = absurd (true≢false (sym h))
equal_finite (inf s) nan t h = absurd t
equal_finite (inf s) (inf u) t h = absurd t
equal_finite (inf s) (fin u n d) t h = absurd (true≢false (sym h))
equal_finite (fin s m e) y t h = tt

equal_sign : (s t : Bool) (a : ℕ) → T (beq s t || eqb a 0) → T s → T t ⊎ (a ≡ 0)
equal_sign true true a h k = inl tt
equal_sign true false a h k = inr (eqb→eq a 0 h)
equal_sign false t a h k = absurd k

pub equal_units : {f : Format} (x y : Float) (n : ℕ) → Units f y n → eq x y ≡ true → Units f x n
equal_units {f} x y n q h =
    record { sign = sign_of x; is = value_same x (sign_of x) a k n (2 ^ low f) K (ap (λ (z : ℕ). z * 2 ^ low f) same ∙ cross) c.is_left; null = λ t. none (equal_sign (sign_of x) (sign_of y) a (and_r (eqb a b) alike told) t) }
  where
    c : Common x y
    c = common x y (equal_finite x y (units_finite q) h) (units_finite q)

    a : ℕ
    a = c.left

    b : ℕ
    b = c.right

    k : ℕ
    k = c.over

    K : 0 < k
    K = c.over_pos

    alike : Bool
    alike = beq (sign_of x) (sign_of y) || eqb a 0

    told : T (eqb a b && alike)
    told = yes (sym (eq_value x y (sign_of x) a (sign_of y) b k K c.is_left c.is_right) ∙ h)

    same : a ≡ b
    same = eqb→eq a b (and_l (eqb a b) alike told)

    cross : b * 2 ^ low f ≡ n * k
    cross = value_cross y (sign_of y) b k q.sign n (2 ^ low f) c.is_right q.is

    none : T (sign_of y) ⊎ (a ≡ 0) → n ≡ 0
    none (inl t) = q.null (subst T (units_sign q) t)
    none (inr z) = eq_of_mul-eq-mul_right k K n 0 (sym cross ∙ ap (λ (z : ℕ). z * 2 ^ low f) (sym same ∙ z) ∙ zero-mul (2 ^ low f) ∙ sym (zero-mul k))

-- ---- whole numbers in units, and back
pub float_is_units : (n : ℕ) → n ≤ 2 ^ 24 → Units binary32 (as_float n) (n * 2 ^ 149)
unfolding of_int
float_is_units n h = whole_units binary32 (as_float n) n (round_whole binary32 false n h)

pub is_units : {x : Float} (n : ℕ) → n ≤ 2 ^ 24 → Is x n → Units binary32 x (n * 2 ^ 149)
is_units {x} n h p = equal_units x (as_float n) (n * 2 ^ 149) (float_is_units n h) p.equal

pub units-is : {x : Float} (n : ℕ) → n ≤ 2 ^ 24 → Units binary32 x (n * 2 ^ 149) → Is x n
units-is {x} n h u = record { equal = eq_units u (float_is_units n h) ∙ is_true (eqb (n * 2 ^ 149) (n * 2 ^ 149)) (eq→eqb {a = n * 2 ^ 149} refl) }

-- over 1, with its sign, which is negative only at 0
record Number (x : Float) (n : ℕ) : Type 0 where
  sign : Bool
  is : HasValue x sign n 1
  null : T sign → n ≡ 0

number : {x : Float} (n : ℕ) → n ≤ 2 ^ 24 → Is x n → Number x n
number {x} n h p =
    let u = is_units n h p in
    record {
      sign = u.sign;
      is = value_same x u.sign (n * 2 ^ 149) (2 ^ 149) n 1 (pow_pos 149) (mul-one (n * 2 ^ 149)) u.is;
      null = λ t. eq_of_mul-eq-mul_right (2 ^ 149) (pow_pos 149) n 0 (u.null t ∙ sym (zero-mul (2 ^ 149)));
    }

number_is : (x : Float) (s : Bool) (n : ℕ) → n ≤ 2 ^ 24 → (T s → n ≡ 0) → HasValue x s n 1 → Is x n
number_is x s n h z v =
    units-is n h (record {
      sign = s;
      is = value_same x s n 1 (n * 2 ^ 149) (2 ^ 149) (pow_pos 0) (sym (mul-one (n * 2 ^ 149))) v;
      null = λ t. ap (λ (k : ℕ). k * 2 ^ 149) (z t) ∙ zero-mul (2 ^ 149);
    })

pub float_is : (n : ℕ) → n ≤ 2 ^ 24 → Is (as_float n) n
float_is n h = units-is n h (float_is_units n h)

pub zero_is : Is zero32 0
zero_is = units-is 0 zero-le (zero_units binary32 false)

pub one_is : Is one32 1
one_is = units-is 1 (lit≤ tt) (one_units binary32)

scaled_ltb : (a b k : ℕ) → 0 < k → ltb (a * k) (b * k) ≡ ltb a b
scaled_ltb a b k K =
    same_test (ltb (a * k) (b * k)) (ltb a b) (λ t. lt→ltb a b (lt_of_mul-lt-mul_right k (ltb→lt _ _ t))) (λ t. lt→ltb _ _ (mul-lt-mul_of_pos_right (ltb→lt a b t) K))

-- ---- operations
module _ {x y : Float} (a b : ℕ) (p : Is x a) (q : Is y b) where
  pub add_is : a + b ≤ 2 ^ 24 → Is (add binary32 x y) (a + b)
  add_is h =
      let e : a * 2 ^ 149 + b * 2 ^ 149 ≡ (a + b) * 2 ^ 149 = sym (add-mul a b (2 ^ 149)) in
      units-is (a + b) h
      (subst (Units binary32 (add binary32 x y)) e
      (add_exact (is_units a (omega (arith, h)) p) (is_units b (omega (arith, h)) q) (subst (Grid binary32) (sym e) (grid_multiple binary32 (a + b) 149 h))
      (subst (λ (z : ℕ). z < overflow binary32) (sym e) (whole_under binary32 (a + b) h))))

  pub sub_is : b ≤ a → a ≤ 2 ^ 24 → Is (sub binary32 x y) (a - b)
  sub_is l h =
      let u = is_units a h p in
      let v = is_units b (le_trans l h) q in
      let s : Bool = u.sign && not v.sign in
      let d : a - b ≤ 2 ^ 24 = le_trans (sub-le a b) h in
      let e : sub binary32 x y ≡ round binary32 s ((a - b) * 2 ^ 149) (2 ^ 149) =
      sub_round u v (mul-le-mul_right (2 ^ 149) l) ∙ ap (λ (n : ℕ). round binary32 s n (2 ^ 149)) (sym (scaled_difference a b (2 ^ 149))) in
      units-is (a - b) d (record {
        sign = s;
        is = subst (λ (z : Float). HasValue z s ((a - b) * 2 ^ 149) (2 ^ 149)) (sym e) (round_grid s (grid_multiple binary32 (a - b) 149 d) (whole_under binary32 (a - b) d));
        null = λ t. scaled_difference a b (2 ^ 149) ∙ ap (λ (z : ℕ). z - b * 2 ^ 149) (u.null (and_l u.sign (not v.sign) t)) ∙ zero-sub (b * 2 ^ 149);
      })
    where
      scaled_difference : (a b k : ℕ) → (a - b) * k ≡ a * k - b * k
      scaled_difference a b k = mul_comm (a - b) k ∙ mul-sub k a b ∙ rw (mul_comm k a, mul_comm k b)

  pub mul_is : a ≤ 2 ^ 24 → b ≤ 2 ^ 24 → a * b ≤ 2 ^ 24 → Is (mul binary32 x y) (a * b)
  mul_is h k l =
      let u = number a h p in
      let v = number b k q in
      let s : Bool = unlike u.sign v.sign in
      number_is (mul binary32 x y) s (a * b) l (none u.sign v.sign u.null v.null)
      (subst (λ (z : Float). HasValue z s (a * b) 1) (sym (mul_value binary32 x y u.sign a 1 v.sign b 1 (pow_pos 0) (pow_pos 0) u.is v.is)) (round_whole binary32 s (a * b) l))
    where
      none : (s t : Bool) → (T s → a ≡ 0) → (T t → b ≡ 0) → T (unlike s t) → a * b ≡ 0
      none true t f g h = ap (λ (z : ℕ). z * b) (f tt) ∙ zero-mul b
      none false true f g h = ap (λ (z : ℕ). a * z) (g tt) ∙ mul-zero a
      none false false f g h = absurd h

  pub rem_is : a ≤ 2 ^ 24 → b ≤ 2 ^ 24 → 0 < b → Is (rem binary32 x y) (a % b)
  rem_is h k B =
      let u = number a h p in
      let v = number b k q in
      let l : a % b ≤ 2 ^ 24 = le_trans (mod-le a b) h in
      number_is (rem binary32 x y) u.sign (a % b) l (λ t. ap (λ (z : ℕ). z % b) (u.null t) ∙ zero-mod b)
      (subst (λ (z : Float). HasValue z u.sign (a % b) 1) (sym (rem_value binary32 x y u.sign a v.sign b 1 (pow_pos 0) B u.is v.is)) (round_whole binary32 u.sign (a % b) l))

  -- ---- tests
  module _ (h : a ≤ 2 ^ 24) (k : b ≤ 2 ^ 24) where
    pub lt_is : lt x y ≡ ltb a b
    lt_is = lt_units (is_units a h p) (is_units b k q) ∙ scaled_ltb a b (2 ^ 149) (pow_pos 149)

    pub le_is : a ≤ b → T (le x y)
    le_is l = subst T (sym (le_units (is_units a h p) (is_units b k q))) (le→leb _ _ (mul-le-mul_right (2 ^ 149) l))

-- the smaller of two where it is the first
pub min_is : {x y : Float} (a b : ℕ) → Is x a → Is y b → a ≤ b → b ≤ 2 ^ 24 → min_of x y ≡ x
unfolding min_of
min_is {x} {y} a b p q l h =
    let k = le_trans l h in
    rw (is_false (is_nan x) (finite_not_nan x (units_finite (is_units a k p))), lt_is b a q p h k ∙ le-ltb b a l)

-- ---- equality with a float that is a whole number
pub equal_is : {x y : Float} (n : ℕ) → Is y n → n ≤ 2 ^ 24 → T (eq x y) → Is x n
equal_is {x} {y} n q h t = units-is n h (equal_units x y (n * 2 ^ 149) (is_units n h q) (is_true (eq x y) t))

pub is_equal : {x y : Float} (n : ℕ) → Is x n → Is y n → n ≤ 2 ^ 24 → T (eq x y)
is_equal {x} {y} n p q h = subst T (sym (eq_units (is_units n h p) (is_units n h q))) (eq→eqb {a = n * 2 ^ 149} refl)

-- ---- casts
pub cast_is : {x : Float} (n : ℕ) → n ≤ 2 ^ 24 → Is x n → as_whole 64 x ≡ n
cast_is {x} n h p = let u = number n h p in go u.sign u.is u.null
  where
    go : (s : Bool) → HasValue x s n 1 → (T s → n ≡ 0) → to_unsigned 64 x ≡ n
    go false v z = value_to_unsigned 64 x n 1 (pow_pos 0) v ∙ omega (arith, h)
    go true v z = negative_to_unsigned 64 x n 1 v ∙ sym (z tt)

-- ---- the test: what it says of x, and that it says it of every such x
pub record WholeIn (lo hi : ℕ) (x : Float) : Type 0 where
  pub is : Is x (as_whole 64 x)
  pub low : lo ≤ as_whole 64 x
  pub top : as_whole 64 x ≤ hi

pub whole_in : (lo hi : ℕ) (x : Float) → T (is_whole_in lo hi x) → WholeIn lo hi x
unfolding is_whole_in
whole_in lo hi x t =
    let n : ℕ = as_whole 64 x in
    let a : Bool = eq x (as_float n) in
    let b : Bool = leb lo n in
    let c : Bool = leb n hi in
    let r = and_r a (b && c) t in
    record { is = record { equal = is_true a (and_l a (b && c) t) }; low = leb→le lo n (and_l b c r); top = leb→le n hi (and_r b c r) }

pub in_whole : (lo hi : ℕ) {x : Float} (n : ℕ) → Is x n → lo ≤ n → n ≤ hi → hi ≤ 2 ^ 24 → T (is_whole_in lo hi x)
unfolding is_whole_in
in_whole lo hi {x} n p l h k =
    let e : as_whole 64 x ≡ n = cast_is n (le_trans h k) p in
    subst (λ (m : ℕ). T (eq x (as_float m) && (leb lo m && leb m hi))) (sym e)
    (and_i (eq x (as_float n)) (leb lo n && leb n hi) (yes p.equal) (and_i (leb lo n) (leb n hi) (le→leb lo n l) (le→leb n hi h)))

-- ---- the sum of two whole numbers' floats is the float of their sum
pub float_sign : (n : ℕ) → sign_of (as_float n) ≡ false
unfolding of_int
float_sign n = round_sign binary32 false n 1

pub float_sum : (a b : ℕ) → a + b ≤ 2 ^ 24 → add binary32 (as_float a) (as_float b) ≡ as_float (a + b)
float_sum a b h =
    let A : a ≤ 2 ^ 24 = omega (arith, h) in
    let B : b ≤ 2 ^ 24 = omega (arith, h) in
    units_unique (add-fits binary32 (as_float a) (as_float b)) (of_int-fits binary32 (pos (a + b)))
    (add_sign (float_is_units a A) (float_is_units b B) ∙ ap (λ (s : Bool). s && sign_of (as_float b)) (float_sign a) ∙ sym (float_sign (a + b)))
    (is_units (a + b) h (add_is a b (float_is a A) (float_is b B) h)) (float_is_units (a + b) h)
