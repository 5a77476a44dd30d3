-- A number of units rounded to the format, as a function of natural numbers: what is on the grid stays, and the order is kept.
-- `round` of n units is `rd f n` units, or an infinity from `overflow f` on. Assumes nothing.
use Rattle.std.proofs.Common.{◌≡◌, ℕ, zero, suc, ◌+◌, ◌-◌, ◌*◌, ◌/◌, ◌%◌, ◌^◌, ◌<◌, ◌≤◌, Bool, true, false, cond, not, T, ltb, pos, sym, refl, ap, ◌∙◌, subst, ap₂, inl, inr, zero-le, le_trans, le_of_eq, lt_of_lt_of_le, le_of_suc-le-suc, lt_of_le_of_lt, add-le-add, lt_irrefl, mul-le-mul_right, mul_assoc, suc-mul, mul_comm, div-lt_iff_lt-mul, le_antisymm, eq-or-lt_of_le, mul-pos, lt_of_not-le, le-div_iff_mul-le, zero-mul, mul-one, not-le_of_lt, div-mul-le_self, mul-div_cancel, arith, ltb→lt, nltb→le, pow_pos, pow_mono, pow-add, shl_lt}
use Prim.Native.Nat.compare
use Prim.Native.Nat.{Ordering}
use Prim.Native.Nat.{compare}
use native.Mathlib.Nat.{lt-div-mul-add, div-le_of_le-mul, mul-mod_left}
use lib.Arith.{le→nltb}
use lib.Ieee.{Float, inf, fin, Format, prec, low, size, nearest, odd, units, round, neg, fits, is_nan}
use lib.Ieee.Digits.{size-lt, size-le, size_reaches}
use lib.Ieee.Fits.{two, two-le_pos, nearest-le, kept-lt, round_is, round-fits}
use lib.Ieee.Bits.{cond_no}
use lib.Ieee.Exact.{HasValue, units_val, odd_sign}
use lib.Ieee.Nearest.{closest, closest_mono, closest_same, nearest-ge}
use lib.Ieee.Scale.{finite, overflow, round_same}
use Rattle.binary32.proofs.Truth.{yes_or_no, cond_split}
use Rattle.binary32.specs.Leaves.{sign_of}
use Rattle.binary32.proofs.Values.{finite_not_nan, value_sign, value_finite, value_same, value_cross, value_unique}
use Rattle.binary32.proofs.Units.{Grid, grid_multiple, pow_over, Units, units_sign, on_grid}

-- n with its prec leading digits kept, rounded to the nearest, a tie to the even one
unfoldable pub rd : Format → ℕ → ℕ
rd f n = let k = size n - prec f in closest n (2 ^ k) * 2 ^ k

-- ---- what is on the grid stays
above_zero : (u : ℕ) → 0 < u → compare 0 u ≡ Ordering.lt
above_zero zero h = absurd (lt_irrefl 0 h)
above_zero (suc u) h = compare.zero-suc u

pub closest_exact : (r u : ℕ) → 0 < u → closest (r * u) u ≡ r
closest_exact r u h =
    ap₂ (λ (x y : ℕ). nearest x (compare (y * 2) u)) (mul-div_cancel r h) (mul-mod_left r u) ∙ ap (nearest r) (above_zero u h)

pub rd_exact : {f : Format} {n : ℕ} → Grid f n → rd f n ≡ n
unfolding rd
rd_exact {f} {n} g =
    let q = g.digits in
    let j = g.shift in
    let k = size n - prec f in
    let fewer : k ≤ j = omega (arith, size-le n (prec f + j) (subst (λ (z : ℕ). z < 2 ^ (prec f + j)) (sym g.is) (shl_lt (prec f) j g.few))) in
    let r = q * 2 ^ (j - k) in
    let e : n ≡ r * 2 ^ k = g.is ∙ pow_over q j k fewer in
    ap (λ (z : ℕ). z * 2 ^ k) (ap (λ (z : ℕ). closest z (2 ^ k)) e ∙ closest_exact r (2 ^ k) (pow_pos k)) ∙ sym e

-- ---- the order is kept
kept-le : (p n : ℕ) → closest n (2 ^ (size n - p)) ≤ 2 ^ p
kept-le p n =
    let u = 2 ^ (size n - p) in
    le_trans (nearest-le (n / u) (compare (n % u * 2) u)) (kept-lt p n)

-- where digits are dropped, p digits are kept
kept-ge : (p n : ℕ) → 0 < p → 0 < size n - p → 2 ^ (p - 1) ≤ closest n (2 ^ (size n - p))
kept-ge p n P K =
    let k = size n - p in
    let u = 2 ^ k in
    le_trans ((le-div_iff_mul-le (pow_pos k)).1 (le_trans (le_of_eq (sym (pow-add 2 (p - 1) k))) (size_reaches n (p - 1 + k) (omega arith))))
    (nearest-ge (n / u) (compare (n % u * 2) u))

drop_mono : (a b p : ℕ) → a ≤ b → size a - p ≤ size b - p
drop_mono a b p h = omega (arith, size-le a (size b) (lt_of_le_of_lt h (size-lt b)))

-- Either both drop as many digits, or a power of two lies between the two results.
pub rd_mono : (f : Format) {a b : ℕ} → a ≤ b → rd f a ≤ rd f b
unfolding rd
rd_mono f {a} {b} h =
    let p = prec f in
    let P : 0 < p = two-le_pos p (two f) in
    let j = size a - p in
    let k = size b - p in
    elim (eq-or-lt_of_le (drop_mono a b p h)) [
      | inl e ↦
          subst (λ (i : ℕ). closest a (2 ^ i) * 2 ^ i ≤ closest b (2 ^ k) * 2 ^ k) (sym e)
          (mul-le-mul_right (2 ^ k) (closest_mono a (2 ^ k) b (2 ^ k) (pow_pos k) (pow_pos k) (mul-le-mul_right (2 ^ k) h)))
      | inr l ↦
          le_trans (mul-le-mul_right (2 ^ j) (kept-le p a))
          (le_trans (le_of_eq (sym (pow-add 2 p j)))
          (le_trans (pow_mono {i = p + j} {j = p - 1 + k} (omega arith))
          (le_trans (le_of_eq (pow-add 2 (p - 1) k)) (mul-le-mul_right (2 ^ k) (kept-ge p b P (lt_of_le_of_lt zero-le l))))))
    ]

pub rd_grid : (f : Format) (n : ℕ) → Grid f (rd f n)
unfolding rd
rd_grid f n = grid_multiple f (closest n (2 ^ (size n - prec f))) (size n - prec f) (kept-le (prec f) n)

pub rd_le : {f : Format} {n g : ℕ} → Grid f g → n ≤ g → rd f n ≤ g
rd_le {f} g h = le_trans (rd_mono f h) (le_of_eq (rd_exact g))

pub rd_ge : {f : Format} {n g : ℕ} → Grid f g → g ≤ n → g ≤ rd f n
rd_ge {f} g h = le_trans (le_of_eq (sym (rd_exact g))) (rd_mono f h)

-- ---- (n + (u - 1)) / u, the least w with n ≤ w * u
pub up_reaches : (n u : ℕ) → 0 < u → n ≤ (n + (u - 1)) / u * u
up_reaches n u U = go n u ((n + (u - 1)) / u * u) U (lt-div-mul-add U)
  where
    go : (n u w : ℕ) → 0 < u → n + (u - 1) < w + u → n ≤ w
    go n u w U h = omega arith

pub up_least : (n u w : ℕ) → 0 < u → n ≤ w * u → (n + (u - 1)) / u ≤ w
up_least n u w U h = le_of_suc-le-suc ((div-lt_iff_lt-mul U).1 (lt_of_lt_of_le (go n u (w * u) U h) (le_of_eq (sym (suc-mul w u)))))
  where
    go : (n u w : ℕ) → 0 < u → n ≤ w → n + (u - 1) < w + u
    go n u w U h = omega arith

pub up_near : (n u : ℕ) → 0 < u → (n + (u - 1)) / u * u < n + u
up_near n u U = go n u ((n + (u - 1)) / u * u) U (div-mul-le_self (n + (u - 1)) u)
  where
    go : (n u w : ℕ) → 0 < u → w ≤ n + (u - 1) → w < n + u
    go n u w U h = omega arith

-- ---- how far a number can move: up to 2 ^ (prec + j) each multiple of 2 ^ j is on the grid
pub rd_near : (f : Format) (n j : ℕ) → n ≤ 2 ^ (prec f + j) → rd f n < n + 2 ^ j
rd_near f n j h =
    let u = 2 ^ j in
    let few = up_least n u (2 ^ prec f) (pow_pos j) (le_trans h (le_of_eq (pow-add 2 (prec f) j))) in
    lt_of_le_of_lt (rd_le (grid_multiple f ((n + (u - 1)) / u) j few) (up_reaches n u (pow_pos j))) (up_near n u (pow_pos j))

pub rd_near_below : (f : Format) (n j : ℕ) → n ≤ 2 ^ (prec f + j) → n < rd f n + 2 ^ j
rd_near_below f n j h =
    let u = 2 ^ j in
    let few : n / u ≤ 2 ^ prec f = div-le_of_le-mul u (le_trans h (le_of_eq (pow-add 2 (prec f) j ∙ mul_comm (2 ^ prec f) u))) in
    lt_of_lt_of_le (lt-div-mul-add (pow_pos j)) (add-le-add (rd_ge (grid_multiple f (n / u) j few) (div-mul-le_self n u)) (le_of_eq refl))

-- ---- a number of prec + k digits drops k of them
pub size_is : (n j : ℕ) → 2 ^ j ≤ n → n < 2 ^ suc j → size n ≡ suc j
size_is n j lo hi = le_antisymm (size-le n (suc j) hi) (lt_of_not-le (λ (g : size n ≤ j). not-le_of_lt (lt_of_lt_of_le (size-lt n) (pow_mono g)) lo))

pub rd_at : (f : Format) (n k : ℕ) → 2 ^ (prec f - 1 + k) ≤ n → n < 2 ^ (prec f + k) → rd f n ≡ closest n (2 ^ k) * 2 ^ k
unfolding rd
rd_at f n k lo hi =
    let p = prec f in
    let P : 0 < p = two-le_pos p (two f) in
    let z : p + k ≡ suc (p - 1 + k) = omega arith in
    ap (λ (i : ℕ). closest n (2 ^ i) * 2 ^ i) (omega (arith, size_is n (p - 1 + k) lo (subst (λ (i : ℕ). n < 2 ^ i) z hi)))

-- ---- `round` of n units
abbrev dropped : Format → ℕ → ℕ
dropped f n = size n - prec f

units-is : (f : Format) (s : Bool) (n : ℕ) → round f s n (2 ^ low f) ≡ units f s (closest n (2 ^ dropped f n)) (dropped f n)
units-is f s n =
    let l = 2 ^ low f in
    let k = dropped f n in
    round_is f s n l
    ∙ ap (λ (z : ℕ). units f s (closest (n * l) (l * 2 ^ (size z - prec f))) (size z - prec f)) (mul-div_cancel n (pow_pos (low f)))
    ∙ ap (λ (z : ℕ). units f s z k) (closest_same (n * l) (l * 2 ^ k) n (2 ^ k) (mul-pos (pow_pos (low f)) (pow_pos k)) (pow_pos k) (mul_assoc n l (2 ^ k)))

pub round_value : (f : Format) (s : Bool) (n : ℕ) → rd f n < overflow f → HasValue (round f s n (2 ^ low f)) s (rd f n) (2 ^ low f)
unfolding rd
round_value f s n h = subst (λ (x : Float). HasValue x s (rd f n) (2 ^ low f)) (sym (units-is f s n)) (units_val f s (closest n (2 ^ dropped f n)) (dropped f n) h)

pub round_over : (f : Format) (s : Bool) (n : ℕ) → overflow f ≤ rd f n → round f s n (2 ^ low f) ≡ inf s
unfolding rd units
round_over f s n h =
    let q = closest n (2 ^ dropped f n) in
    let k = dropped f n in
    units-is f s n ∙ cond_no (ltb (q * 2 ^ k) (overflow f)) (odd (suc (prec f)) s q k (low f)) (inf s) (le→nltb (q * 2 ^ k) (overflow f) h)

-- it sees no more of n than what is kept
pub round_kept : (f : Format) (s : Bool) (a b : ℕ) → rd f a ≡ rd f b → round f s a (2 ^ low f) ≡ round f s b (2 ^ low f)
round_kept f s a b e = elim (yes_or_no (ltb (rd f a) (overflow f))) [
  | inl t ↦
      let h : rd f a < overflow f = ltb→lt (rd f a) (overflow f) t in
      value_unique f (round f s a (2 ^ low f)) (round f s b (2 ^ low f)) s (rd f a) (2 ^ low f) (pow_pos (low f)) (round-fits f s a (2 ^ low f)) (round-fits f s b (2 ^ low f)) (round_value f s a h)
      (subst (λ (z : ℕ). HasValue (round f s b (2 ^ low f)) s z (2 ^ low f)) (sym e) (round_value f s b (lt_of_le_of_lt (le_of_eq (sym e)) h)))
  | inr t ↦
      let h : overflow f ≤ rd f a = nltb→le (rd f a) (overflow f) t in
      round_over f s a h ∙ sym (round_over f s b (le_trans h (le_of_eq e)))
]

pub round_finite : (f : Format) (s : Bool) (n : ℕ) → T (finite (round f s n (2 ^ low f))) → rd f n < overflow f
round_finite f s n t = lt_of_not-le (λ (h : overflow f ≤ rd f n). subst (λ (x : Float). T (finite x)) (round_over f s n h) t)

pub round_units : (f : Format) (s : Bool) (n : ℕ) → (T s → n ≡ 0) → rd f n < overflow f → Units f (round f s n (2 ^ low f)) (rd f n)
round_units f s n z h = record { sign = s; is = round_value f s n h; null = λ t. ap (rd f) (z t) ∙ rd_exact (grid_multiple f 0 0 zero-le) }

-- on the grid and below overflow nothing is lost
pub round_grid : {f : Format} {n : ℕ} (s : Bool) → Grid f n → n < overflow f → HasValue (round f s n (2 ^ low f)) s n (2 ^ low f)
round_grid {f} {n} s g h =
    subst (λ (z : ℕ). HasValue (round f s n (2 ^ low f)) s z (2 ^ low f)) (rd_exact g) (round_value f s n (lt_of_le_of_lt (le_of_eq (rd_exact g)) h))

-- ---- `round` of any fraction

-- a fraction that is n units
pub round_in_units : (f : Format) (s : Bool) (a c n : ℕ) → 0 < c → a * 2 ^ low f ≡ n * c → round f s a c ≡ round f s n (2 ^ low f)
round_in_units f s a c n C e = round_same f s a c n (2 ^ low f) C (pow_pos (low f)) e

-- a value that the format holds
pub round_held : (f : Format) (x : Float) (s : Bool) (a c : ℕ) → 0 < c → T (fits f x) → HasValue x s a c → round f s a c ≡ x
round_held f x s a c C h v =
    let k = on_grid f x (value_finite x s a c v) h in
    let n = k.count in
    let w : HasValue x s n (2 ^ low f) = subst (λ (z : Bool). HasValue x z n (2 ^ low f)) (value_sign x s a c v) k.is in
    round_in_units f s a c n C (sym (value_cross x s n (2 ^ low f) s a c w v))
    ∙ value_unique f (round f s n (2 ^ low f)) x s n (2 ^ low f) (pow_pos (low f)) (round-fits f s n (2 ^ low f)) h (round_grid s k.grid k.under) w

-- a value that is w ones is the integer w as a float
pub whole_round : {f : Format} {x : Float} (w : ℕ) → T (fits f x) → sign_of x ≡ false → Units f x (w * 2 ^ low f) → x ≡ round f false w 1
whole_round {f} {x} w t e p =
    let v : HasValue x false (w * 2 ^ low f) (2 ^ low f) = subst (λ (s : Bool). HasValue x s (w * 2 ^ low f) (2 ^ low f)) (sym (units_sign p) ∙ e) p.is in
    sym (round_held f x false w 1 (pow_pos 0) t (value_same x false (w * 2 ^ low f) (2 ^ low f) w 1 (pow_pos (low f)) (mul-one (w * 2 ^ low f)) v))

-- what holds of the infinity and of what `odd` writes holds of what `round` gives
units_either : (f : Format) (s : Bool) (q k : ℕ) (P : Float → Type 0) → P (odd (suc (prec f)) s q k (low f)) → P (inf s) → P (units f s q k)
unfolding units
units_either f s q k P o i = cond_split P (ltb (q * 2 ^ k) (overflow f)) (odd (suc (prec f)) s q k (low f)) (inf s) (λ t. o) (λ t. i)

round_either : (f : Format) (s : Bool) (a c : ℕ) (P : Float → Type 0) → ((x : Float) (q k : ℕ) → HasValue x s (q * 2 ^ k) (2 ^ low f) → P x) → P (inf s) → P (round f s a c)
round_either f s a c P v i = subst P (sym (round_is f s a c)) (units_either f s _ _ P (v _ _ _ (odd_sign (suc (prec f)) s _ _ (low f))) i)

pub round_sign : (f : Format) (s : Bool) (a c : ℕ) → sign_of (round f s a c) ≡ s
round_sign f s a c = round_either f s a c (λ (x : Float). sign_of x ≡ s) (λ x q k v. value_sign x s (q * 2 ^ k) (2 ^ low f) v) refl

pub round_not_nan : (f : Format) (s : Bool) (a c : ℕ) → T (not (is_nan (round f s a c)))
unfolding is_nan
round_not_nan f s a c = round_either f s a c (λ (x : Float). T (not (is_nan x))) (λ x q k v. finite_not_nan x (value_finite x s (q * 2 ^ k) (2 ^ low f) v)) tt

odd_neg : (d : ℕ) (s : Bool) (q k l : ℕ) → odd d (not s) q k l ≡ neg (odd d s q k l)
unfolding odd neg
odd_neg d s zero k l = refl
odd_neg d s (suc q) k l = refl

units_neg : (f : Format) (s : Bool) (q k : ℕ) → units f (not s) q k ≡ neg (units f s q k)
unfolding units neg
units_neg f s q k = go (ltb (q * 2 ^ k) (overflow f))
  where
    go : (b : Bool) → cond b (odd (suc (prec f)) (not s) q k (low f)) (inf (not s)) ≡ neg (cond b (odd (suc (prec f)) s q k (low f)) (inf s))
    go true = odd_neg (suc (prec f)) s q k (low f)
    go false = refl

pub round_neg : (f : Format) (s : Bool) (a c : ℕ) → round f (not s) a c ≡ neg (round f s a c)
round_neg f s a c = round_is f (not s) a c ∙ units_neg f s _ _ ∙ ap neg (sym (round_is f s a c))

pub round-zero : (f : Format) (s : Bool) (c : ℕ) → 0 < c → round f s 0 c ≡ fin s 0 (pos 0)
unfolding fits
round-zero f s c C = round_held f (fin s 0 (pos 0)) s 0 c C tt (refl, zero-mul c)
