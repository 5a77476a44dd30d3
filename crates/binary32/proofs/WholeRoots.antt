-- The whole part of a number's root: what `isqrt` is, that nothing else is it, how it goes with a power of two, and how Newton's steps reach it.
-- Nothing here is about floats. Assumes nothing.
use Rattle.std.proofs.Common.{◌≡◌, ℕ, zero, suc, ◌+◌, ◌-◌, ◌*◌, ◌/◌, ◌^◌, ◌<◌, ◌≤◌, Bool, true, false, cond, not, T, leb, sym, refl, ap, ◌∙◌, subst, zero-le, le_trans, le_of_eq, lt_of_lt_of_le, le_of_suc-le-suc, not-suc-le-zero, lt_of_le_of_lt, le_of_lt, add_assoc, lt_irrefl, add-suc, mul-le-mul_right, zero-lt-suc, mul_assoc, lt-suc_self, suc-mul, mul_comm, div-lt_iff_lt-mul, add-mul, mul-le-mul, add_comm, le_antisymm, lt_of_mul-lt-mul_right, mul-lt-mul_of_pos_right, mul-pos, lt_of_not-le, mul-suc, mul-add, div-mul-le_self, le_of_mul-le-mul_right, arith, leb→le, pow_pos, pow_mono, pow-add}
use native.Mathlib.Nat.{le_dest, le_intro, add_left_comm, mul-mul-mul_comm, two-pow-succ, pow-succ'}
use native.Mathlib.Decide.{dec_le}
use lib.Arith.{add-le_cancel_left}
use lib.Dec.{nleb→lt}
use lib.Ieee.{size}
use lib.Ieee.Digits.{size-lt}
use Rattle.binary32.specs.Leaves.{with_digit, root_below, isqrt}

-- q is the largest number whose square is at most n
abbrev pub IsRoot : ℕ → ℕ → Type 0
IsRoot n q = (q * q ≤ n) × (n < suc q * suc q)

pub square_mono : {a b : ℕ} → a ≤ b → a * a ≤ b * b
square_mono h = mul-le-mul h h

next_square : (t : ℕ) → suc t * suc t ≡ t * t + (2 * t + 1)
next_square t = suc-mul t (suc t) ∙ ap (λ (z : ℕ). z + suc t) (mul-suc t t) ∙ go (t * t)
  where
    go : (s : ℕ) → s + t + suc t ≡ s + (2 * t + 1)
    go s = omega arith

pub square_lt : {a b : ℕ} → a < b → a * a < b * b
square_lt {a} {b} h = lt_of_lt_of_le (go (a * a) a (suc a * suc a) (next_square a)) (square_mono h)
  where
    go : (s a t : ℕ) → t ≡ s + (2 * a + 1) → s < t
    go s a t e = omega arith

pub root_unique : (n p q : ℕ) → IsRoot n p → IsRoot n q → p ≡ q
root_unique n p q h k = le_antisymm (under p q h.0 k.1) (under q p k.0 h.1)
  where
    under : (p q : ℕ) → p * p ≤ n → n < suc q * suc q → p ≤ q
    under p q l g = le_of_suc-le-suc (lt_of_not-le (λ (m : suc q ≤ p). lt_irrefl n (lt_of_lt_of_le g (le_trans (square_mono m) l))))

-- ---- the definition, digit by digit
pub four_squares : (p : ℕ) → 2 * p * (2 * p) ≡ 4 * (p * p)
four_squares p = mul-mul-mul_comm 2 p 2 p

next_squares : (p : ℕ) → suc (suc (2 * p)) * suc (suc (2 * p)) ≡ 4 * (suc p * suc p)
next_squares p = ap (λ (z : ℕ). z * z) (omega arith) ∙ four_squares (suc p)

digit_root : (n p : ℕ) → IsRoot (n / 4) p → IsRoot n (with_digit n (2 * p))
digit_root n p h = go (leb (suc (2 * p) * suc (2 * p)) n) (leb→le _ _) (nleb→lt _ _)
  where
    go : (b : Bool) → (T b → suc (2 * p) * suc (2 * p) ≤ n) → (T (not b) → n < suc (2 * p) * suc (2 * p)) → IsRoot n (cond b (suc (2 * p)) (2 * p))
    go true l g = (l tt, lt_of_lt_of_le (above (suc p * suc p) h.1) (le_of_eq (sym (next_squares p))))
      where
        above : (s : ℕ) → n / 4 < s → n < 4 * s
        above s k = omega arith
    go false l g = (le_trans (le_of_eq (four_squares p)) (under (p * p) h.0), g tt)
      where
        under : (s : ℕ) → s ≤ n / 4 → 4 * s ≤ n
        under s k = omega arith

below_root : (k n : ℕ) → n < 2 ^ k → IsRoot n (root_below k n)
unfolding root_below
below_root zero n h = (zero-le, h)
below_root (suc k) n h = digit_root n (root_below k (n / 4)) (below_root k (n / 4) (quarter (2 ^ k) (subst (λ (z : ℕ). n < z) (two-pow-succ k) h)))
  where
    quarter : (u : ℕ) → n < u + u → n / 4 < u
    quarter u l = omega arith

pub isqrt_root : (n : ℕ) → IsRoot n (isqrt n)
unfolding isqrt
isqrt_root n = below_root (size n) n (size-lt n)

pub isqrt_is : (n q : ℕ) → IsRoot n q → q ≡ isqrt n
isqrt_is n q h = root_unique n q (isqrt n) h (isqrt_root n)

-- ---- with 2 i more digits the root has i more
pub isqrt_scale : (n u : ℕ) → 0 < u → isqrt (n * (u * u)) / u ≡ isqrt n
isqrt_scale n u U =
    let q = isqrt (n * (u * u)) in
    let p = q / u in
    let h = isqrt_root (n * (u * u)) in
    let lo : p * p * (u * u) ≤ n * (u * u) = le_trans (le_of_eq (mul-mul-mul_comm p p u u)) (le_trans (square_mono (div-mul-le_self q u)) h.0) in
    let up : suc q ≤ suc p * u = (div-lt_iff_lt-mul U).0 (lt-suc_self p) in
    let hi : n * (u * u) < suc p * suc p * (u * u) = lt_of_lt_of_le h.1 (le_trans (square_mono up) (le_of_eq (mul-mul-mul_comm (suc p) u (suc p) u))) in
    isqrt_is n p (le_of_mul-le-mul_right lo (mul-pos U U), lt_of_mul-lt-mul_right (u * u) hi)

-- ---- how large it is
pub root_reaches : (n b : ℕ) → b * b ≤ n → b ≤ isqrt n
root_reaches n b h = le_of_suc-le-suc (lt_of_not-le (λ (m : suc (isqrt n) ≤ b). lt_irrefl n (lt_of_lt_of_le (isqrt_root n).1 (le_trans (square_mono m) h))))

pub root_stays : (n b : ℕ) → n < b * b → isqrt n < b
root_stays n b h = lt_of_not-le (λ (m : b ≤ isqrt n). lt_irrefl n (lt_of_lt_of_le h (le_trans (square_mono m) (isqrt_root n).0)))

-- ---- A number c * 2 ^ j of p digits and zeros has no root whose whole part is t = o * 2 ^ i, with o odd and of more than p digits, where t is short beside 2 ^ (2 i).
-- Such a number is an even multiple of 2 ^ (2 i), and the square of t an odd one: between them lies more than there is up to the next square.
square_odd : (w : ℕ) → suc (2 * w) * suc (2 * w) ≡ suc (2 * (2 * (w * w) + 2 * w))
square_odd w = next_square (2 * w) ∙ ap (λ (z : ℕ). z + (2 * (2 * w) + 1)) (four_squares w) ∙ go (w * w)
  where
    go : (s : ℕ) → 4 * s + (2 * (2 * w) + 1) ≡ suc (2 * (2 * s + 2 * w))
    go s = omega arith

pub pow_lt_back : (i j : ℕ) → 2 ^ i < 2 ^ j → i < j
pow_lt_back i j h = lt_of_not-le (λ (g : j ≤ i). lt_irrefl (2 ^ i) (lt_of_lt_of_le h (pow_mono g)))

module _ (p c j w i : ℕ) (few : c < 2 ^ p) (many : 2 ^ p ≤ suc (2 * w)) where
  abbrev o : ℕ
  o = suc (2 * w)

  -- 2 ^ (2 i) divides the number, and evenly
  deep : o * 2 ^ i * (o * 2 ^ i) ≤ c * 2 ^ j → i + i < j
  deep h = go (pow_lt_back (p + p + (i + i)) (p + j)
      (lt_of_le_of_lt
      (le_trans (le_of_eq (pow-add 2 (p + p) (i + i) ∙ ap (λ (z : ℕ). z * 2 ^ (i + i)) (pow-add 2 p p) ∙ ap (λ (z : ℕ). 2 ^ p * 2 ^ p * z) (pow-add 2 i i)))
      (le_trans (mul-le-mul_right (2 ^ i * 2 ^ i) (square_mono many)) (le_trans (le_of_eq (mul-mul-mul_comm o o (2 ^ i) (2 ^ i))) h)))
      (lt_of_lt_of_le (mul-lt-mul_of_pos_right few (pow_pos j)) (le_of_eq (sym (pow-add 2 p j))))))
    where
      go : p + p + (i + i) < p + j → i + i < j
      go l = omega arith

  even_multiple : i + i < j → (h : ℕ) × (c * 2 ^ j ≡ 2 * h * (2 ^ i * 2 ^ i))
  even_multiple l =
      let d = j - suc (i + i) in
      let e : j ≡ d + suc (i + i) = omega arith in (
        c * 2 ^ d,
        ap (λ (z : ℕ). c * 2 ^ z) e ∙ ap (λ (z : ℕ). c * z) (pow-add 2 d (suc (i + i))) ∙ sym (mul_assoc c (2 ^ d) (2 ^ suc (i + i)))
            ∙ ap (λ (z : ℕ). c * 2 ^ d * z) (pow-succ' 2 (i + i)) ∙ sym (mul_assoc (c * 2 ^ d) 2 (2 ^ (i + i)))
            ∙ ap (λ (z : ℕ). z * 2 ^ (i + i)) (mul_comm (c * 2 ^ d) 2) ∙ ap (λ (z : ℕ). 2 * (c * 2 ^ d) * z) (pow-add 2 i i),
      )

  pub never_odd : 2 * (o * 2 ^ i) + 1 ≤ 2 ^ i * 2 ^ i → isqrt (c * 2 ^ j) ≡ o * 2 ^ i → ⊥
  never_odd short e =
      let t = o * 2 ^ i in
      let u = 2 ^ i * 2 ^ i in
      let r : IsRoot (c * 2 ^ j) t = subst (IsRoot (c * 2 ^ j)) e (isqrt_root (c * 2 ^ j)) in
      let h = even_multiple (deep r.0) in
      let lo : o * o * u ≤ 2 * h.0 * u = le_trans (le_of_eq (mul-mul-mul_comm o o (2 ^ i) (2 ^ i))) (le_trans r.0 (le_of_eq h.1)) in
      let odd : suc (o * o) ≤ 2 * h.0 = parity (o * o) (2 * (w * w) + 2 * w) h.0 (square_odd w) (le_of_mul-le-mul_right lo (mul-pos (pow_pos i) (pow_pos i))) in
      let far : o * o * u + u ≤ c * 2 ^ j = le_trans (le_of_eq (go (o * o) u)) (le_trans (mul-le-mul_right u odd) (le_of_eq (sym h.1))) in
      lt_irrefl (c * 2 ^ j) (lt_of_lt_of_le r.1 (le_trans (le_of_eq (next_square t)) (le_trans (near (t * t) (o * o * u) (2 * t + 1) u (mul-mul-mul_comm o (2 ^ i) o (2 ^ i)) short) far)))
    where
      parity : (s a h : ℕ) → s ≡ suc (2 * a) → s ≤ 2 * h → suc s ≤ 2 * h
      parity s a h e l = omega arith

      go : (s u : ℕ) → s * u + u ≡ suc s * u
      go s u = sym (suc-mul s u)

      near : (s z a u : ℕ) → s ≡ z → a ≤ u → s + a ≤ z + u
      near s z a u e l = omega arith

-- ---- Newton's steps, from any number above 0: one step leads to the root or above it, and from above it down
mean_le : (a b : ℕ) → a * b + a * b ≤ b * b + a * a
mean_le a b = either (dec_le a b)
  where
    at : (a d : ℕ) → a * (a + d) + a * (a + d) ≤ (a + d) * (a + d) + a * a
    at a d = le_intro (a * (a + d) + a * (a + d)) (d * d) (simp (mul-add, add-mul, mul_comm, add_assoc, add_comm, add_left_comm) refl)

    ordered : (a b : ℕ) → a ≤ b → a * b + a * b ≤ b * b + a * a
    ordered a b h = subst (λ (x : ℕ). a * x + a * x ≤ x * x + a * a) (le_dest h).1 (at a (le_dest h).0)

    either : Dec (a ≤ b) → a * b + a * b ≤ b * b + a * a
    either (yes h) = ordered a b h
    either (no f) = le_trans (le_of_eq (ap (λ (z : ℕ). z + z) (mul_comm a b))) (le_trans (ordered b a (le_of_lt (lt_of_not-le f))) (le_of_eq (add_comm (a * a) (b * b))))

-- with q for n / r and m for one more than the step's result: (r + q + 1) * r ≤ 2 m r ≤ r * r + m * m
step-above : (n r q m : ℕ) → n < suc q * r → suc (r + q) ≤ m + m → n < m * m
step-above n r q m next twice =
    lt_of_lt_of_le next
    (add-le_cancel_left (r * r)
    (le_trans (le_of_eq (sym (add-mul r (suc q) r) ∙ ap (λ (x : ℕ). x * r) (add-suc r q)))
    (le_trans (mul-le-mul_right r twice) (le_trans (le_of_eq (add-mul m m r)) (mean_le m r)))))

abbrev pub step : ℕ → ℕ → ℕ
step n r = (r + n / r) / 2

pub newton_above : (n r : ℕ) → 0 < r → n < suc (step n r) * suc (step n r)
newton_above n r R = step-above n r (n / r) (suc (step n r)) ((div-lt_iff_lt-mul R).0 (lt-suc_self (n / r))) (go (r + n / r))
  where
    go : (s : ℕ) → suc s ≤ suc (s / 2) + suc (s / 2)
    go s = omega arith

pub square_pos : (n r : ℕ) → n < r * r → 0 < r
square_pos n zero h = absurd (not-suc-le-zero h)
square_pos n (suc r) h = zero-lt-suc r

pub newton_down : (n r : ℕ) → n < r * r → step n r < r
newton_down n r h = go (n / r) ((div-lt_iff_lt-mul (square_pos n r h)).1 h)
  where
    go : (q : ℕ) → q < r → (r + q) / 2 < r
    go q l = omega arith
