-- Comparisons and operations by any fractions that the operands equal, of all signs.
-- `HasValue x s a c` of lib.Ieee.Exact says that x is finite, has the sign s, and is a / c in size.
-- Two values that a format holds, of one sign and one size, are equal as data. Assumes nothing.
use Rattle.std.proofs.Common.{◌≡◌, ℕ, ◌+◌, ◌-◌, ◌*◌, ◌/◌, ◌%◌, ◌^◌, ◌<◌, min, Bool, true, false, cond, not, ◌&&◌, ◌||◌, T, eqb, ltb, leb, ℤ, pos, sym, refl, ap, ◌∙◌, subst, ap₂, inl, inr, true≢false, le_of_eq, lt_of_lt_of_le, lt_of_le_of_lt, add-zero, le_of_lt, lt_irrefl, mul_assoc, mul_comm, add-mul, eq-zero-or-pos, lt_of_mul-lt-mul_right, eq-or-lt_of_le, mul-lt-mul_of_pos_right, mul-pos, zero-mul, mul_right_comm, mul-div_cancel, arith, le→leb, eqb→eq, ltb→lt, lt→ltb, leb→le, T_not}
use native.Mathlib.Nat.{eq_of_mul-eq-mul_right, mul-sub, mul-mul-mul_comm, mul-mod_left}
use mathlib.Core.Bool.{beq, and-true}
use lib.Dec.{leb-zero, not_T}
use lib.Arith.{mod-mul}
use lib.Ieee.{Float, nan, inf, fin, Format, prec, low, unlike, up, down, size, round, sum, add, sub, mul, div, rem, neg, lt, eq, le, below, level, fits, is_nan, hid, top, of_bits, to_bits, to_unsigned}
use lib.Ieee.Fits.{eq→eqb, up_pos, down_pos, and_i, and_l, and_r}
use lib.Ieee.Bits.{cond_no, of_bits-to_bits}
use lib.Ieee.Exact.{HasValue}
use lib.Ieee.Nearest.{div_same}
use lib.Ieee.Scale.{round_same, finite}
use lib.Ieee.Positive.{first_pos}
use Rattle.binary32.specs.Leaves.{sign_of}
use Rattle.binary32.proofs.Truth.{same_test, or_l, or_r, or_split}

-- ---- what `HasValue` says
pub finite_not_nan : (x : Float) → T (finite x) → T (not (is_nan x))
unfolding is_nan
finite_not_nan nan t = absurd t
finite_not_nan (inf s) t = tt
finite_not_nan (fin s m e) t = tt

pub value_sign : (x : Float) (s : Bool) (a c : ℕ) → HasValue x s a c → sign_of x ≡ s
value_sign nan s a c h = absurd h
value_sign (inf t) s a c h = absurd h
value_sign (fin t m e) s a c h = h.0

pub value_finite : (x : Float) (s : Bool) (a c : ℕ) → HasValue x s a c → T (finite x)
value_finite nan s a c h = absurd h
value_finite (inf t) s a c h = absurd h
value_finite (fin t m e) s a c h = tt

pub value_size : (x : Float) (s : Bool) (a : ℕ) (t : Bool) (b c : ℕ) → HasValue x s a c → HasValue x t b c → a ≡ b
value_size nan s a t b c h g = absurd h
value_size (inf u) s a t b c h g = absurd h
value_size (fin u m e) s a t b c h g = eq_of_mul-eq-mul_right (down e) (down_pos e) a b (sym h.1 ∙ g.1)

-- x as data
abbrev Opened : Float → Bool → ℕ → ℕ → Type 0
Opened x s a c = (m : ℕ) × (e : ℤ) × (x ≡ fin s m e) × (m * up e * c ≡ a * down e)

opened : (x : Float) (s : Bool) (a c : ℕ) → HasValue x s a c → Opened x s a c
opened nan s a c h = absurd h
opened (inf t) s a c h = absurd h
opened (fin t m e) s a c h = (m, e, λ i. fin (h.0 i) m e, h.1)

-- by another fraction of the same size
pub value_same : (x : Float) (s : Bool) (a c b d : ℕ) → 0 < c → a * d ≡ b * c → HasValue x s a c → HasValue x s b d
value_same nan s a c b d C e h = h
value_same (inf u) s a c b d C e h = h
value_same (fin u m i) s a c b d C e h = (
  h.0,
  eq_of_mul-eq-mul_right c C (m * up i * d) (b * down i)
      (mul_right_comm (m * up i) d c
      ∙ ap (λ (z : ℕ). z * d) h.1
      ∙ mul_right_comm a (down i) d
      ∙ ap (λ (z : ℕ). z * down i) e
      ∙ mul_right_comm b c (down i)),
)

-- two fractions that one value equals
pub value_cross : (x : Float) (s : Bool) (a c : ℕ) (t : Bool) (b d : ℕ) → HasValue x s a c → HasValue x t b d → a * d ≡ b * c
value_cross nan s a c t b d h g = absurd h
value_cross (inf u) s a c t b d h g = absurd h
value_cross (fin u m e) s a c t b d h g =
    eq_of_mul-eq-mul_right (down e) (down_pos e) (a * d) (b * c)
    (mul_right_comm a d (down e) ∙ ap (λ (z : ℕ). z * d) (sym h.1) ∙ mul_right_comm (m * up e) c d ∙ ap (λ (z : ℕ). z * c) g.1 ∙ mul_right_comm b (down e) c)

-- the size, cut to a whole number
pub value_cut : (u : Bool) (m : ℕ) (e : ℤ) (s : Bool) (a c : ℕ) → 0 < c → HasValue (fin u m e) s a c → m * up e / down e ≡ a / c
value_cut u m e s a c C h = div_same (m * up e) (down e) a c (down_pos e) C h.1

pub value_to_unsigned : (w : ℕ) (x : Float) (a c : ℕ) → 0 < c → HasValue x false a c → to_unsigned w x ≡ min (a / c) (2 ^ w - 1)
unfolding to_unsigned
value_to_unsigned w nan a c C h = absurd h
value_to_unsigned w (inf t) a c C h = absurd h
value_to_unsigned w (fin true m e) a c C h = absurd (true≢false h.0)
value_to_unsigned w (fin false m e) a c C h = ap (λ (n : ℕ). min n (2 ^ w - 1)) (value_cut false m e false a c C h)

-- a negative value, -0 among them
pub negative_to_unsigned : (w : ℕ) (x : Float) (a c : ℕ) → HasValue x true a c → to_unsigned w x ≡ 0
unfolding to_unsigned
negative_to_unsigned w nan a c h = absurd h
negative_to_unsigned w (inf s) a c h = absurd h
negative_to_unsigned w (fin true m e) a c h = refl
negative_to_unsigned w (fin false m e) a c h = absurd (true≢false (sym h.0))

-- over k times its own denominator
pub scaled : (s : Bool) (m : ℕ) (e : ℤ) (k : ℕ) → HasValue (fin s m e) s (m * up e * k) (down e * k)
scaled s m e k = (refl, sym (mul_assoc (m * up e) (down e) k) ∙ mul_right_comm (m * up e) (down e) k)

-- two finite values over one denominator
pub record Common (x y : Float) : Type 0 where
  pub left : ℕ
  pub right : ℕ
  pub over : ℕ
  pub over_pos : 0 < over
  pub is_left : HasValue x (sign_of x) left over
  pub is_right : HasValue y (sign_of y) right over

pub common : (x y : Float) → T (finite x) → T (finite y) → Common x y
common nan y p q = absurd p
common (inf s) y p q = absurd p
common (fin s m e) nan p q = absurd q
common (fin s m e) (inf t) p q = absurd q
common (fin s m e) (fin t n d) p q =
    record {
      left = m * up e * down d;
      right = n * up d * down e;
      over = down e * down d;
      over_pos = mul-pos (down_pos e) (down_pos d);
      is_left = scaled s m e (down d);
      is_right = subst (HasValue (fin t n d) t (n * up d * down e)) (mul_comm (down d) (down e)) (scaled t n d (down e));
    }

-- ---- Where p / k is a / c and q / k is b / c, a test of p and q answers as that of a and b
module _ (c k : ℕ) (C : 0 < c) (K : 0 < k) where
  lt_same : {p q a b : ℕ} → p * c ≡ a * k → q * c ≡ b * k → p < q → a < b
  lt_same h g l = lt_of_mul-lt-mul_right k (lt_of_le_of_lt (le_of_eq (sym h)) (lt_of_lt_of_le (mul-lt-mul_of_pos_right l C) (le_of_eq g)))

  eq-same : {p q a b : ℕ} → p * c ≡ a * k → q * c ≡ b * k → p ≡ q → a ≡ b
  eq-same {p} {q} {a} {b} h g e = eq_of_mul-eq-mul_right k K a b (sym h ∙ ap (λ (z : ℕ). z * c) e ∙ g)

ltb_same : (c k p q a b : ℕ) → 0 < c → 0 < k → p * c ≡ a * k → q * c ≡ b * k → ltb p q ≡ ltb a b
ltb_same c k p q a b C K h g =
    same_test (ltb p q) (ltb a b) (λ t. lt→ltb a b (lt_same c k C K h g (ltb→lt p q t))) (λ t. lt→ltb p q (lt_same k c K C (sym h) (sym g) (ltb→lt a b t)))

eqb_same : (c k p q a b : ℕ) → 0 < c → 0 < k → p * c ≡ a * k → q * c ≡ b * k → eqb p q ≡ eqb a b
eqb_same c k p q a b C K h g =
    same_test (eqb p q) (eqb a b) (λ t. eq→eqb (eq-same c k C K h g (eqb→eq p q t))) (λ t. eq→eqb (eq-same k c K C (sym h) (sym g) (eqb→eq a b t)))

none_same : (c k : ℕ) → 0 * c ≡ 0 * k
none_same c k = zero-mul c ∙ sym (zero-mul k)

sum_same : (c k p q a b : ℕ) → p * c ≡ a * k → q * c ≡ b * k → (p + q) * c ≡ (a + b) * k
sum_same c k p q a b h g = add-mul p q c ∙ ap₂ (λ (x y : ℕ). x + y) h g ∙ sym (add-mul a b k)

below_same : (c k : ℕ) (s : Bool) (p : ℕ) (t : Bool) (q a b : ℕ) → 0 < c → 0 < k → p * c ≡ a * k → q * c ≡ b * k → below s p t q ≡ below s a t b
below_same c k false p false q a b C K h g = ltb_same c k p q a b C K h g
below_same c k false p true q a b C K h g = refl
below_same c k true p false q a b C K h g = ltb_same c k 0 (p + q) 0 (a + b) C K (none_same c k) (sum_same c k p q a b h g)
below_same c k true p true q a b C K h g = ltb_same c k q p b a C K g h

level_same : (c k : ℕ) (s : Bool) (p : ℕ) (t : Bool) (q a b : ℕ) → 0 < c → 0 < k → p * c ≡ a * k → q * c ≡ b * k → level s p t q ≡ level s a t b
level_same c k s p t q a b C K h g =
    ap₂ (λ (x y : Bool). x && (beq s t || y)) (eqb_same c k p q a b C K h g) (eqb_same c k p 0 a 0 C K h (none_same c k))

-- ---- M / E is a / c, and N / D is b / c, so over E * D they are M * D and N * E
left_same : (M E D a c : ℕ) → M * c ≡ a * E → M * D * c ≡ a * (E * D)
left_same M E D a c h = mul_right_comm M D c ∙ ap (λ (z : ℕ). z * D) h ∙ mul_assoc a E D

right_same : (N E D b c : ℕ) → N * c ≡ b * D → N * E * c ≡ b * (E * D)
right_same N E D b c h = left_same N D E b c h ∙ ap (λ (z : ℕ). b * z) (mul_comm D E)

-- ---- comparisons
pub lt_value : (x y : Float) (s : Bool) (a : ℕ) (t : Bool) (b c : ℕ) → 0 < c → HasValue x s a c → HasValue y t b c → lt x y ≡ below s a t b
unfolding lt
lt_value x y s a t b c C h g =
    let (m, e, p, v) = opened x s a c h in
    let (n, d, q, w) = opened y t b c g in
    ap₂ lt p q
    ∙ below_same c (down e * down d) s (m * up e * down d) t (n * up d * down e) a b C (mul-pos (down_pos e) (down_pos d))
    (left_same (m * up e) (down e) (down d) a c v) (right_same (n * up d) (down e) (down d) b c w)

pub eq_value : (x y : Float) (s : Bool) (a : ℕ) (t : Bool) (b c : ℕ) → 0 < c → HasValue x s a c → HasValue y t b c → eq x y ≡ level s a t b
unfolding eq
eq_value x y s a t b c C h g =
    let (m, e, p, v) = opened x s a c h in
    let (n, d, q, w) = opened y t b c g in
    ap₂ eq p q
    ∙ level_same c (down e * down d) s (m * up e * down d) t (n * up d * down e) a b C (mul-pos (down_pos e) (down_pos d))
    (left_same (m * up e) (down e) (down d) a c v) (right_same (n * up d) (down e) (down d) b c w)

zero_level : (s : Bool) → T (level s 0 false 0)
zero_level true = tt
zero_level false = tt

pub value_nonzero : (x : Float) (s : Bool) (a c : ℕ) → 0 < c → HasValue x s a c → T (not (eq x (fin false 0 (pos 0)))) → 0 < a
value_nonzero x s a c C v h = elim (eq-zero-or-pos a) [
  | inl z ↦
      absurd (T_not (eq x (fin false 0 (pos 0))) h
      (subst T (sym (eq_value x (fin false 0 (pos 0)) s a false 0 c C v (refl, zero-mul c))) (subst (λ (n : ℕ). T (level s n false 0)) (sym z) (zero_level s))))
  | inr p ↦ p
]

-- ±a ≤ ±b
abbrev pub most : Bool → ℕ → Bool → ℕ → Bool
most false a false b = leb a b
most false a true b = eqb (a + b) 0
most true a false b = true
most true a true b = leb b a

lt-or-eq : (a b : ℕ) → (ltb a b || eqb a b) ≡ leb a b
lt-or-eq a b = same_test (ltb a b || eqb a b) (leb a b) to from
  where
    to : T (ltb a b || eqb a b) → T (leb a b)
    to t = elim (or_split (ltb a b) (eqb a b) t) [ inl u ↦ le→leb a b (le_of_lt (ltb→lt a b u)) | inr u ↦ le→leb a b (le_of_eq (eqb→eq a b u)) ]

    from : T (leb a b) → T (ltb a b || eqb a b)
    from t = elim (eq-or-lt_of_le (leb→le a b t)) [ inl e ↦ or_r (ltb a b) (eqb a b) (eq→eqb e) | inr l ↦ or_l (ltb a b) (eqb a b) (lt→ltb a b l) ]

eqb_sym : (a b : ℕ) → eqb a b ≡ eqb b a
eqb_sym a b = same_test (eqb a b) (eqb b a) (λ t. eq→eqb (sym (eqb→eq a b t))) (λ t. eq→eqb (sym (eqb→eq b a t)))

both_zero : (a b : ℕ) → (eqb a b && eqb a 0) ≡ eqb (a + b) 0
both_zero a b =
    same_test (eqb a b && eqb a 0) (eqb (a + b) 0)
    (λ (t : T (eqb a b && eqb a 0)). omega (arith, eqb→eq a b (and_l (eqb a b) (eqb a 0) t), eqb→eq a 0 (and_r (eqb a b) (eqb a 0) t), eq→eqb))
    (λ (t : T (eqb (a + b) 0)). and_i (eqb a b) (eqb a 0) (omega (arith, eqb→eq, eq→eqb)) (omega (arith, eqb→eq, eq→eqb)))

most_is : (s : Bool) (a : ℕ) (t : Bool) (b : ℕ) → (below s a t b || level s a t b) ≡ most s a t b
most_is false a false b = ap (λ (z : Bool). ltb a b || z) (and-true (eqb a b)) ∙ lt-or-eq a b
most_is false a true b = both_zero a b
most_is true a false b = ap (λ (z : Bool). ltb 0 (a + b) || z) (both_zero a b ∙ eqb_sym (a + b) 0) ∙ lt-or-eq 0 (a + b) ∙ leb-zero (a + b)
most_is true a true b = ap (λ (z : Bool). ltb b a || z) (and-true (eqb a b) ∙ eqb_sym a b) ∙ lt-or-eq b a

pub le_value : (x y : Float) (s : Bool) (a : ℕ) (t : Bool) (b c : ℕ) → 0 < c → HasValue x s a c → HasValue y t b c → le x y ≡ most s a t b
unfolding le
le_value x y s a t b c C h g = ap₂ (λ (p q : Bool). p || q) (lt_value x y s a t b c C h g) (eq_value x y s a t b c C h g) ∙ most_is s a t b

-- ---- operations
diff_same : (c k p q a b : ℕ) → p * c ≡ a * k → q * c ≡ b * k → (p - q) * c ≡ (a - b) * k
diff_same c k p q a b h g =
    mul_comm (p - q) c
    ∙ mul-sub c p q
    ∙ ap₂ (λ (x y : ℕ). x - y) (mul_comm c p ∙ h ∙ mul_comm a k) (mul_comm c q ∙ g ∙ mul_comm b k)
    ∙ sym (mul-sub k a b)
    ∙ mul_comm k (a - b)

sum_is : (f : Format) (c k : ℕ) (s : Bool) (p : ℕ) (t : Bool) (q a b : ℕ) → 0 < c → 0 < k → p * c ≡ a * k → q * c ≡ b * k → sum f s p t q k ≡ sum f s a t b c
unfolding sum
sum_is f c k s p t q a b C K h g =
    let all : round f s (p + q) k ≡ round f s (a + b) c = round_same f s (p + q) k (a + b) c K C (sum_same c k p q a b h g) in
    let over : round f t (q - p) k ≡ round f t (b - a) c = round_same f t (q - p) k (b - a) c K C (diff_same c k q p b a g h) in
    let under : round f (s && ltb q p) (p - q) k ≡ round f (s && ltb b a) (a - b) c =
    ap (λ (u : Bool). round f (s && u) (p - q) k) (ltb_same c k q p b a C K g h)
    ∙ round_same f (s && ltb b a) (p - q) k (a - b) c K C (diff_same c k p q a b h g) in
    λ i. cond (beq s t) (all i) (cond (ltb_same c k p q a b C K h g i) (over i) (under i))

pub add_value : (f : Format) (x y : Float) (s : Bool) (a : ℕ) (t : Bool) (b c : ℕ) → 0 < c → HasValue x s a c → HasValue y t b c → add f x y ≡ sum f s a t b c
unfolding add
add_value f x y s a t b c C h g =
    let (m, e, p, v) = opened x s a c h in
    let (n, d, q, w) = opened y t b c g in
    ap₂ (add f) p q
    ∙ sum_is f c (down e * down d) s (m * up e * down d) t (n * up d * down e) a b C (mul-pos (down_pos e) (down_pos d))
    (left_same (m * up e) (down e) (down d) a c v) (right_same (n * up d) (down e) (down d) b c w)

pub neg_value : (x : Float) (s : Bool) (a c : ℕ) → HasValue x s a c → HasValue (neg x) (not s) a c
unfolding neg
neg_value nan s a c h = h
neg_value (inf u) s a c h = h
neg_value (fin u m e) s a c h = (ap not h.0, h.1)

pub sub_value : (f : Format) (x y : Float) (s : Bool) (a : ℕ) (t : Bool) (b c : ℕ) → 0 < c → HasValue x s a c → HasValue y t b c → sub f x y ≡ sum f s a (not t) b c
unfolding sub
sub_value f x y s a t b c C h g = add_value f x (neg y) s a (not t) b c C h (neg_value y t b c g)

-- the factors may have denominators of their own
pub mul_value : (f : Format) (x y : Float) (s : Bool) (a c : ℕ) (t : Bool) (b d : ℕ) → 0 < c → 0 < d → HasValue x s a c → HasValue y t b d
    → mul f x y ≡ round f (unlike s t) (a * b) (c * d)
unfolding mul
mul_value f x y s a c t b d C D h g =
    let (m, e, p, v) = opened x s a c h in
    let (n, k, q, w) = opened y t b d g in
    ap₂ (mul f) p q
    ∙ round_same f (unlike s t) (m * up e * (n * up k)) (down e * down k) (a * b) (c * d) (mul-pos (down_pos e) (down_pos k)) (mul-pos C D)
    (mul-mul-mul_comm (m * up e) (n * up k) c d ∙ ap₂ (λ (z w : ℕ). z * w) v w ∙ mul-mul-mul_comm a (down e) b (down k))

pub mod_scale : (a b k : ℕ) → 0 < b → 0 < k → a * k % (b * k) ≡ a % b * k
mod_scale a b k B K =
    mod-mul (a * k) B K ∙ ap₂ (λ (x y : ℕ). x % b * k + y) (mul-div_cancel a K) (mul-mod_left a k) ∙ add-zero (a % b * k)

mod_same : (c k p q a b : ℕ) → 0 < c → 0 < k → 0 < q → 0 < b → p * c ≡ a * k → q * c ≡ b * k → p % q * c ≡ a % b * k
mod_same c k p q a b C K Q B h g = sym (mod_scale p q c Q C) ∙ ap₂ (λ (x y : ℕ). x % y) h g ∙ mod_scale a b k B K

-- a value that is not 0 in size has an m that is not 0
not-zero : (n u c b k : ℕ) → n * u * c ≡ b * k → 0 < b → 0 < k → 0 < n
not-zero n u c b k g B K = first_pos n u (first_pos (n * u) c (subst (λ (z : ℕ). 0 < z) (sym g) (mul-pos B K)))

-- and so may dividend and divisor, which is not 0
pub div_value : (f : Format) (x y : Float) (s : Bool) (a c : ℕ) (t : Bool) (b d : ℕ) → 0 < c → 0 < d → 0 < b → HasValue x s a c → HasValue y t b d
    → div f x y ≡ round f (unlike s t) (a * d) (b * c)
unfolding div
div_value f x y s a c t b d C D B h g =
    let (m, e, p, v) = opened x s a c h in
    let (n, k, q, w) = opened y t b d g in
    let X = m * up e in
    let Y = n * up k in
    let N : 0 < n = not-zero n (up k) d b (down k) w B (down_pos k) in
    ap₂ (div f) p q
    ∙ cond_no (eqb n 0) (cond (eqb m 0) nan (inf (unlike s t))) (round f (unlike s t) (X * down k) (Y * down e)) (not_T (eqb n 0) (λ t. lt_irrefl 0 (subst (λ (z : ℕ). 0 < z) (eqb→eq n 0 t) N)))
    ∙ round_same f (unlike s t) (X * down k) (Y * down e) (a * d) (b * c) (mul-pos (mul-pos N (up_pos k)) (down_pos e)) (mul-pos B C)
    (ap (λ (z : ℕ). X * down k * z) (mul_comm b c) ∙ mul-mul-mul_comm X (down k) c b ∙ ap₂ (λ (z w : ℕ). z * w) v (mul_comm (down k) b ∙ sym w ∙ mul_comm Y d)
    ∙ mul-mul-mul_comm a (down e) d Y ∙ ap (λ (z : ℕ). a * d * z) (mul_comm (down e) Y))

pub rem_value : (f : Format) (x y : Float) (s : Bool) (a : ℕ) (t : Bool) (b c : ℕ) → 0 < c → 0 < b → HasValue x s a c → HasValue y t b c
    → rem f x y ≡ round f s (a % b) c
unfolding rem
rem_value f x y s a t b c C B h g =
    let (m, e, u, v) = opened x s a c h in
    let (n, d, z, w) = opened y t b c g in
    let p = m * up e * down d in
    let q = n * up d * down e in
    let k = down e * down d in
    let K : 0 < k = mul-pos (down_pos e) (down_pos d) in
    let N : 0 < n = not-zero n (up d) c b (down d) w B (down_pos d) in
    ap₂ (rem f) u z
    ∙ cond_no (eqb n 0) nan (round f s (p % q) k) (not_T (eqb n 0) (λ t. lt_irrefl 0 (subst (λ (z : ℕ). 0 < z) (eqb→eq n 0 t) N)))
    ∙ round_same f s (p % q) k (a % b) c K C
    (mod_same c k p q a b C K (mul-pos (mul-pos N (up_pos d)) (down_pos e)) B (left_same (m * up e) (down e) (down d) a c v) (right_same (n * up d) (down e) (down d) b c w))

-- ---- one value, one float

-- the bit pattern of the sign s and n of the format's smallest values
abbrev pattern : Format → Bool → ℕ → ℕ
pattern f s n = let k = size n - prec f in cond s (top f) 0 + k * hid f + n / 2 ^ k

value_bits : (f : Format) (x : Float) (s : Bool) (a c : ℕ) → 0 < c → HasValue x s a c → to_bits f x ≡ pattern f s (a * 2 ^ low f / c)
unfolding to_bits
value_bits f nan s a c C h = absurd h
value_bits f (inf u) s a c C h = absurd h
value_bits f (fin u m e) s a c C h =
    ap₂ (pattern f) h.0
    (div_same (m * up e * 2 ^ low f) (down e) (a * 2 ^ low f) c (down_pos e) C
    (mul_right_comm (m * up e) (2 ^ low f) c ∙ ap (λ (z : ℕ). z * 2 ^ low f) h.1 ∙ mul_right_comm a (down e) (2 ^ low f)))

pub value_unique : (f : Format) (x y : Float) (s : Bool) (a c : ℕ) → 0 < c → T (fits f x) → T (fits f y) → HasValue x s a c → HasValue y s a c → x ≡ y
value_unique f x y s a c C p q h g =
    sym (of_bits-to_bits f x p) ∙ ap (of_bits f) (value_bits f x s a c C h ∙ sym (value_bits f y s a c C g)) ∙ of_bits-to_bits f y q

-- ---- a value other than zero equals itself alone
like_sign : (s t : Bool) (a : ℕ) → 0 < a → T (beq s t || eqb a 0) → s ≡ t
like_sign true true a p h = refl
like_sign true false a p h = absurd (lt_irrefl 0 (subst (λ (n : ℕ). 0 < n) (eqb→eq a 0 h) p))
like_sign false true a p h = absurd (lt_irrefl 0 (subst (λ (n : ℕ). 0 < n) (eqb→eq a 0 h) p))
like_sign false false a p h = refl

finite_same : (f : Format) (x y : Float) → T (finite x) → T (finite y) → T (fits f x) → T (fits f y) → T (not (eq x (fin false 0 (pos 0)))) → T (eq x y) → x ≡ y
finite_same f x y p q t u n h =
    let c = common x y p q in
    let a = c.left in
    let b = c.right in
    let k = c.over in
    let signs : Bool = beq (sign_of x) (sign_of y) || eqb a 0 in
    let told : T (eqb a b && signs) = subst T (eq_value x y (sign_of x) a (sign_of y) b k c.over_pos c.is_left c.is_right) h in
    let A : 0 < a = value_nonzero x (sign_of x) a k c.over_pos c.is_left n in
    value_unique f x y (sign_of x) a k c.over_pos t u c.is_left
    (subst (λ (s : Bool). HasValue y s a k) (sym (like_sign (sign_of x) (sign_of y) a A (and_r (eqb a b) signs told)))
    (subst (λ (m : ℕ). HasValue y (sign_of y) m k) (sym (eqb→eq a b (and_l (eqb a b) signs told))) c.is_right))

pub equal_same : (f : Format) (x y : Float) → T (fits f x) → T (fits f y) → T (not (eq x (fin false 0 (pos 0)))) → T (eq x y) → x ≡ y
unfolding eq
equal_same f nan y t u n h = absurd h
equal_same f (inf s) nan t u n h = absurd h
equal_same f (inf true) (inf true) t u n h = refl
equal_same f (inf true) (inf false) t u n h = absurd h
equal_same f (inf false) (inf true) t u n h = absurd h
equal_same f (inf false) (inf false) t u n h = refl
equal_same f (inf s) (fin v k d) t u n h = absurd h
equal_same f (fin s m e) nan t u n h = absurd h
equal_same f (fin s m e) (inf v) t u n h = absurd h
equal_same f (fin s m e) (fin v k d) t u n h = finite_same f (fin s m e) (fin v k d) tt tt t u n h
