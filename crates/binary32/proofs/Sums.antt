-- Sums and differences of values that are not below zero, in units: each is the exact sum or difference rounded, and where that is on the grid it is exact.
-- `less_one`: from 1 to 2 ^ prec, l - 1 is exact. `sub_near` is Sterbenz' lemma: x - y is exact where neither is more than twice the other. Assumes nothing.
use Rattle.std.proofs.Common.{◌≡◌, ℕ, ◌+◌, ◌-◌, ◌*◌, ◌^◌, ◌<◌, ◌≤◌, Bool, true, false, cond, not, ◌&&◌, T, ltb, leb, pos, sym, refl, ap, ◌∙◌, subst, ap₂, inl, inr, le_trans, le_of_eq, lt_of_le_of_lt, le_of_lt, mul-le-mul_right, mul_comm, eq-or-lt_of_le, one-mul, le_of_mul-le-mul_right, sub-le, two-mul, arith, leb→le, pow_pos, le-ltb, lt-ltb}
use native.Mathlib.Nat.{mul-sub, zero-sub}
use mathlib.Core.Bool.{not-not}
use lib.Dec.{nleb→lt}
use lib.Ieee.{Float, Format, prec, low, round, sum, add, sub, mul, fits, nan, inf, fin, up, down}
use lib.Ieee.Fits.{down_pos, and_l, and_r}
use lib.Ieee.Exact.{HasValue}
use lib.Ieee.Scale.{overflow}
use Rattle.binary32.proofs.Truth.{yes_or_no}
use Rattle.binary32.specs.Leaves.{sign_of}
use Rattle.binary32.proofs.Values.{mul_value, add_value, sub_value}
use Rattle.binary32.proofs.Units.{Grid, grid_multiple, grid_double, value_grid, value_under, pow_over, Units, units_sign, grid_of, under_of, one, one_units}
use Rattle.binary32.proofs.Rounding.{rd, rd_exact, rd_le, round_units, round_value, round_sign}

-- ---- `sum` by its signs
pub sum_like : (f : Format) (s : Bool) (a b c : ℕ) → sum f s a s b c ≡ round f s (a + b) c
unfolding sum
sum_like f true a b c = refl
sum_like f false a b c = refl

pub sum_over : (f : Format) (s : Bool) (a b c : ℕ) → a < b → sum f s a (not s) b c ≡ round f (not s) (b - a) c
unfolding sum
sum_over f true a b c h = ap (λ (t : Bool). cond t (round f false (b - a) c) (round f (ltb b a) (a - b) c)) (lt-ltb a b h)
sum_over f false a b c h = ap (λ (t : Bool). cond t (round f true (b - a) c) (round f false (a - b) c)) (lt-ltb a b h)

-- an exact zero is +0
pub sum_under : (f : Format) (s : Bool) (a b c : ℕ) → b ≤ a → sum f s a (not s) b c ≡ round f (s && ltb b a) (a - b) c
unfolding sum
sum_under f true a b c h = ap (λ (t : Bool). cond t (round f false (b - a) c) (round f (ltb b a) (a - b) c)) (le-ltb a b h)
sum_under f false a b c h = ap (λ (t : Bool). cond t (round f true (b - a) c) (round f false (a - b) c)) (le-ltb a b h)

-- -a + b for a ≤ b is not sign_of, and +0 at a = b
sum_back : (f : Format) (a b c : ℕ) → a ≤ b → sum f true a false b c ≡ round f false (b - a) c
sum_back f a b c h = elim (eq-or-lt_of_le h) [
  | inl e ↦ sum_under f true a b c (le_of_eq (sym e)) ∙ ap₂ (λ (t : Bool) (n : ℕ). round f t n c) (le-ltb b a h) (omega (arith, e))
  | inr l ↦ sum_over f true a b c l
]

-- ---- where a negative sign stands only at 0
signless_sum : (f : Format) (s : Bool) (a : ℕ) (t : Bool) (b c : ℕ) → (T s → a ≡ 0) → (T t → b ≡ 0) → sum f s a t b c ≡ round f (s && t) (a + b) c
signless_sum f false a false b c p q = sum_like f false a b c
signless_sum f false a true b c p q = let z : b ≡ 0 = q tt in sum_under f false a b c (omega arith) ∙ ap (λ (n : ℕ). round f false n c) (omega arith)
signless_sum f true a false b c p q = let z : a ≡ 0 = p tt in sum_back f a b c (omega arith) ∙ ap (λ (n : ℕ). round f false n c) (omega arith)
signless_sum f true a true b c p q = sum_like f true a b c

signless_diff : (f : Format) (s : Bool) (a : ℕ) (t : Bool) (b c : ℕ) → (T s → a ≡ 0) → (T t → b ≡ 0) → b ≤ a → sum f s a (not t) b c ≡ round f (s && not t) (a - b) c
signless_diff f false a false b c p q h = sum_under f false a b c h
signless_diff f false a true b c p q h = let z : b ≡ 0 = q tt in sum_like f false a b c ∙ ap (λ (n : ℕ). round f false n c) (omega arith)
signless_diff f true a false b c p q h = let z : a ≡ 0 = p tt in sum_like f true a b c ∙ ap (λ (n : ℕ). round f true n c) (omega arith)
signless_diff f true a true b c p q h = let z : a ≡ 0 = p tt in sum_under f true a b c h ∙ ap (λ (t : Bool). round f t (a - b) c) (le-ltb b a (omega arith))

signless_over : (f : Format) (s : Bool) (a : ℕ) (t : Bool) (b c : ℕ) → (T s → a ≡ 0) → (T t → b ≡ 0) → a < b → sum f s a (not t) b c ≡ round f true (b - a) c
signless_over f s a true b c p q h = let z : b ≡ 0 = q tt in absurd (omega arith)
signless_over f false a false b c p q h = sum_over f false a b c h
signless_over f true a false b c p q h = let z : a ≡ 0 = p tt in sum_like f true a b c ∙ ap (λ (n : ℕ). round f true n c) (omega arith)

module _ {f : Format} {x y : Float} {a b : ℕ} (p : Units f x a) (q : Units f y b) where
  difference : sub f x y ≡ sum f p.sign a (not q.sign) b (2 ^ low f)
  difference = sub_value f x y p.sign a q.sign b (2 ^ low f) (pow_pos (low f)) p.is q.is

  -- the sum is -0 only of two -0
  pub add_round : add f x y ≡ round f (p.sign && q.sign) (a + b) (2 ^ low f)
  add_round =
      add_value f x y p.sign a q.sign b (2 ^ low f) (pow_pos (low f)) p.is q.is
      ∙ signless_sum f p.sign a q.sign b (2 ^ low f) p.null q.null

  -- the difference is -0 only of -0 and +0
  pub sub_round : b ≤ a → sub f x y ≡ round f (p.sign && not q.sign) (a - b) (2 ^ low f)
  sub_round h = difference ∙ signless_diff f p.sign a q.sign b (2 ^ low f) p.null q.null h

  pub add_sign : sign_of (add f x y) ≡ (sign_of x && sign_of y)
  add_sign = ap sign_of add_round ∙ round_sign f (p.sign && q.sign) (a + b) (2 ^ low f) ∙ sym (ap₂ (λ (s t : Bool). s && t) (units_sign p) (units_sign q))

  pub sub_sign : b ≤ a → sign_of (sub f x y) ≡ (sign_of x && not (sign_of y))
  sub_sign h = ap sign_of (sub_round h) ∙ round_sign f (p.sign && not q.sign) (a - b) (2 ^ low f) ∙ sym (ap₂ (λ (s t : Bool). s && not t) (units_sign p) (units_sign q))

  pub add_units : rd f (a + b) < overflow f → Units f (add f x y) (rd f (a + b))
  add_units h = subst (λ (z : Float). Units f z (rd f (a + b))) (sym add_round) (round_units f (p.sign && q.sign) (a + b) null h)
    where
      null : T (p.sign && q.sign) → a + b ≡ 0
      null t = omega (arith, p.null (and_l p.sign q.sign t), q.null (and_r p.sign q.sign t))

  pub add_exact : Grid f (a + b) → a + b < overflow f → Units f (add f x y) (a + b)
  add_exact g h = subst (Units f (add f x y)) (rd_exact g) (add_units (lt_of_le_of_lt (le_of_eq (rd_exact g)) h))

  pub sub_units : T (fits f x) → b ≤ a → Units f (sub f x y) (rd f (a - b))
  sub_units t h =
      subst (λ (z : Float). Units f z (rd f (a - b))) (sym (sub_round h))
      (round_units f (p.sign && not q.sign) (a - b) null (lt_of_le_of_lt (rd_le (grid_of p t) (sub-le a b)) (under_of p t)))
    where
      null : T (p.sign && not q.sign) → a - b ≡ 0
      null t = ap (λ (z : ℕ). z - b) (p.null (and_l p.sign (not q.sign) t)) ∙ zero-sub b

  pub sub_exact : T (fits f x) → b ≤ a → Grid f (a - b) → Units f (sub f x y) (a - b)
  sub_exact t h g = subst (Units f (sub f x y)) (rd_exact g) (sub_units t h)

  -- ---- a difference below zero
  pub sub_over : a < b → sub f x y ≡ round f true (b - a) (2 ^ low f)
  sub_over h = difference ∙ signless_over f p.sign a q.sign b (2 ^ low f) p.null q.null h

  pub sub_over_value : T (fits f y) → a < b → HasValue (sub f x y) true (rd f (b - a)) (2 ^ low f)
  sub_over_value t h =
      subst (λ (z : Float). HasValue z true (rd f (b - a)) (2 ^ low f)) (sym (sub_over h))
      (round_value f true (b - a) (lt_of_le_of_lt (rd_le (grid_of q t) (sub-le b a)) (under_of q t)))

-- ---- a negative value and one that is larger in size: the sum is not sign_of
pub add_back : (f : Format) (x y : Float) (a b c : ℕ) → 0 < c → HasValue x true a c → HasValue y false b c → a ≤ b → add f x y ≡ round f false (b - a) c
add_back f x y a b c C v w h = add_value f x y true a false b c C v w ∙ sum_back f a b c h

pub add_back_units : (f : Format) (x y : Float) (a b : ℕ) → T (fits f y) → HasValue x true a (2 ^ low f) → HasValue y false b (2 ^ low f) → a ≤ b
    → Units f (add f x y) (rd f (b - a))
add_back_units f x y a b u v w h =
    subst (λ (z : Float). Units f z (rd f (b - a))) (sym (add_back f x y a b (2 ^ low f) (pow_pos (low f)) v w h))
    (round_units f false (b - a) (λ t. absurd t) (lt_of_le_of_lt (rd_le (value_grid f y false b u w) (sub-le b a)) (value_under f y false b u w)))

-- ---- twice a value
abbrev pub two : Float
two = fin false 1 (pos 1)

pub double_is : (f : Format) (x : Float) → mul f two x ≡ add f x x
unfolding mul add
double_is f nan = refl
double_is f (inf true) = refl
double_is f (inf false) = refl
double_is f (fin s m e) =
    let x = fin s m e in
    let a = m * up e in
    let sizes : round f (not (not s)) (2 * a) (1 * down e) ≡ round f s (a + a) (down e) = λ i. round f (not-not s i) (two-mul a i) (one-mul (down e) i) in
    mul_value f two x false 2 1 s a (down e) (pow_pos 0) (down_pos e) (refl, refl) (refl, refl)
    ∙ sizes
    ∙ sym (add_value f x x s a s a (down e) (down_pos e) (refl, refl) (refl, refl) ∙ sum_like f s a a (down e))

pub double_units : {f : Format} {x : Float} {n : ℕ} → T (fits f x) → Units f x n → n + n < overflow f → Units f (mul f two x) (n + n)
double_units {f} {x} {n} t p h = subst (λ (z : Float). Units f z (n + n)) (sym (double_is f x)) (add_exact p p (grid_double (grid_of p t)) h)

-- ---- which differences are on the grid
sub-mul : (m n k : ℕ) → (m - n) * k ≡ m * k - n * k
sub-mul m n k = mul_comm (m - n) k ∙ mul-sub k m n ∙ ap₂ (λ (x y : ℕ). x - y) (mul_comm k m) (mul_comm k n)

-- Of a's last digit and 2 ^ k the smaller divides the difference. Over 2 ^ k the bound says that it is small, and over a's last digit a does.
pub sub_grid : {f : Format} {a : ℕ} → Grid f a → (r k : ℕ) → a - r * 2 ^ k ≤ 2 ^ prec f * 2 ^ k → Grid f (a - r * 2 ^ k)
sub_grid {f} {a} g r k h = elim (yes_or_no (leb k j)) [ inl t ↦ coarse (leb→le k j t) | inr t ↦ fine (le_of_lt (nleb→lt k j t)) ]
  where
    q : ℕ
    q = g.digits

    j : ℕ
    j = g.shift

    coarse : k ≤ j → Grid f (a - r * 2 ^ k)
    coarse l =
        let e : a - r * 2 ^ k ≡ (q * 2 ^ (j - k) - r) * 2 ^ k = ap (λ (z : ℕ). z - r * 2 ^ k) (g.is ∙ pow_over q j k l) ∙ sym (sub-mul (q * 2 ^ (j - k)) r (2 ^ k)) in
        subst (Grid f) (sym e) (grid_multiple f (q * 2 ^ (j - k) - r) k (le_of_mul-le-mul_right (le_trans (le_of_eq (sym e)) h) (pow_pos k)))

    fine : j ≤ k → Grid f (a - r * 2 ^ k)
    fine l =
        let e : a - r * 2 ^ k ≡ (q - r * 2 ^ (k - j)) * 2 ^ j = ap₂ (λ (z w : ℕ). z - w) g.is (pow_over r k j l) ∙ sym (sub-mul q (r * 2 ^ (k - j)) (2 ^ j)) in
        subst (Grid f) (sym e) (grid_multiple f (q - r * 2 ^ (k - j)) j (le_trans (sub-le q (r * 2 ^ (k - j))) (le_of_lt g.few)))

pub less_one : {f : Format} {l : Float} {n : ℕ} → T (fits f l) → Units f l n → 2 ^ low f ≤ n → n ≤ 2 ^ prec f * 2 ^ low f → Units f (sub f l one) (n - 2 ^ low f)
less_one {f} {l} {n} t p lo hi = sub_exact p (one_units f) t lo grid
  where
    unit : n - 1 * 2 ^ low f ≡ n - 2 ^ low f
    unit = ap (λ (z : ℕ). n - z) (one-mul (2 ^ low f))

    grid : Grid f (n - 2 ^ low f)
    grid = subst (Grid f) unit (sub_grid (grid_of p t) 1 (low f) (le_trans (le_of_eq unit) (le_trans (sub-le n (2 ^ low f)) hi)))

pub near_grid : {f : Format} {a b : ℕ} → Grid f a → Grid f b → a ≤ b + b → Grid f (a - b)
near_grid {f} {a} {b} g h l =
    subst (λ (z : ℕ). Grid f (a - z)) (sym h.is)
    (sub_grid g h.digits h.shift
    (subst (λ (z : ℕ). a - z ≤ 2 ^ prec f * 2 ^ h.shift) h.is
    (le_trans (less a b l) (le_trans (le_of_eq h.is) (mul-le-mul_right (2 ^ h.shift) (le_of_lt h.few))))))
  where
    less : (a b : ℕ) → a ≤ b + b → a - b ≤ b
    less a b h = omega arith

module _ {f : Format} {x y : Float} {a b : ℕ} (t : T (fits f x)) (u : T (fits f y)) (p : Units f x a) (q : Units f y b) where
  pub sub_near : b ≤ a → a ≤ b + b → Units f (sub f x y) (a - b)
  sub_near l h = sub_exact p q t l (near_grid (grid_of p t) (grid_of q u) h)

  pub sub_near_over : a < b → b ≤ a + a → HasValue (sub f x y) true (b - a) (2 ^ low f)
  sub_near_over l h =
      subst (λ (z : ℕ). HasValue (sub f x y) true z (2 ^ low f)) (rd_exact (near_grid (grid_of q u) (grid_of p t) h)) (sub_over_value p q u l)
