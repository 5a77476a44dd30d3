-- A float `as` an unsigned type, at any width: beyond either end of the range, and from one width to a narrower. Assumes nothing.
use Rattle.std.proofs.Common.{◌≡◌, ℕ, ◌+◌, ◌-◌, ◌*◌, ◌/◌, ◌^◌, ◌<◌, ◌≤◌, min, true, false, T, pos, sym, refl, ap, ◌∙◌, true≢false, zero-lt-suc, mul-pos, one-mul, le-div_iff_mul-le, mul-one, arith, lt→ltb, pow_pos, pow_mono, ltb-false}
use native.Mathlib.Nat.{zero-div}
use lib.Ieee.{Float, nan, inf, fin, up, down, lt, ne, to_unsigned}
use lib.Ieee.Fits.{down_pos}
use Rattle.binary32.proofs.Nans.{is_nan_lem}

capped : (a c : ℕ) → 0 < c → c ≤ a → c - 1 ≡ min a (c - 1)
capped a c p h = omega arith

none : (a b : ℕ) → 0 < b → a + b ≤ 0 → ⊥
none a b p h = omega arith

-- 2 ^ w is above every value that is below zero
power_above : (w d : ℕ) → 0 < d → 0 < 1 * 2 ^ w * d
power_above w d p = mul-pos (mul-pos (zero-lt-suc 0) (pow_pos w)) p

-- from 2 ^ w on it is the largest number of w bits
pub past_end : (w : ℕ) (x : Float) → ne x x ≡ false → lt x (fin false 1 (pos w)) ≡ false → 2 ^ w - 1 ≡ to_unsigned w x
unfolding lt ne to_unsigned
past_end w nan h k = absurd (true≢false h)
past_end w (inf true) h k = absurd (true≢false k)
past_end w (inf false) h k = refl
past_end w (fin true m e) h k = absurd (none (m * up e * 1) (1 * 2 ^ w * down e) (power_above w (down e) (down_pos e)) (ltb-false _ _ k))
past_end w (fin false m e) h k =
    let b : 2 ^ w * down e ≤ m * up e = simp (one-mul, mul-one) at (ltb-false (m * up e * 1) (1 * 2 ^ w * down e) k) in
    capped (m * up e / down e) (2 ^ w) (pow_pos w) ((le-div_iff_mul-le (down_pos e)).1 b)

none_over : (a d : ℕ) → a ≤ 0 * d → a ≡ 0
none_over a d h = omega arith

least : (c : ℕ) → 0 ≡ min 0 c
least c = omega arith

-- up to zero, and for NaN, it is 0
pub before_start : (w : ℕ) (x : Float) → lt (fin false 0 (pos 0)) x ≡ false → 0 ≡ to_unsigned w x
unfolding lt to_unsigned
before_start w nan h = refl
before_start w (inf true) h = refl
before_start w (inf false) h = absurd (true≢false h)
before_start w (fin true m e) h = refl
before_start w (fin false m e) h =
    let z : m * up e ≡ 0 = none_over (m * up e) (down e) (simp mul-one at (ltb-false (0 * 1 * down e) (m * up e * 1) h)) in
    least (2 ^ w - 1) ∙ sym (ap (λ (n : ℕ). min (n / down e) (2 ^ w - 1)) z ∙ ap (λ (n : ℕ). min n (2 ^ w - 1)) (zero-div (down e)))

-- a value that is not below 2 ^ v, but below something, is above -1
pub above_minus_one : (v : ℕ) (x y : Float) → lt x (fin false 1 (pos v)) ≡ false → lt x y ≡ true → T (lt (fin true 1 (pos 0)) x)
unfolding lt
above_minus_one v nan y h k = absurd (true≢false (sym k))
above_minus_one v (inf true) y h k = absurd (true≢false h)
above_minus_one v (inf false) y h k = tt
above_minus_one v (fin true m e) y h k = absurd (none (m * up e * 1) (1 * 2 ^ v * down e) (power_above v (down e) (down_pos e)) (ltb-false _ _ h))
above_minus_one v (fin false m e) y h k = lt→ltb 0 (1 * 1 * down e + m * up e * 1) (some (down e) (m * up e) (down_pos e))
  where
    some : (d n : ℕ) → 0 < d → 0 < 1 * 1 * d + n * 1
    some d n p = omega arith

pub nan_cast : (w : ℕ) (x : Float) → ne x x ≡ true → 0 ≡ to_unsigned w x
unfolding to_unsigned
nan_cast w x h = sym (ap (to_unsigned w) (is_nan_lem x h))

narrower : (a b c : ℕ) → b ≤ c → min a b ≡ min (min a c) b
narrower a b c h = omega arith

least_of : (a b : ℕ) → a ≤ b → a ≡ min b a
least_of a b h = omega arith

less_one : (a b : ℕ) → a ≤ b → a - 1 ≤ b - 1
less_one a b h = omega arith

-- a narrower width keeps what it can hold, and stops at its own end
pub narrow : (w v : ℕ) → w ≤ v → (x : Float) → to_unsigned w x ≡ min (to_unsigned v x) (2 ^ w - 1)
unfolding to_unsigned
narrow w v h nan = least (2 ^ w - 1)
narrow w v h (inf true) = least (2 ^ w - 1)
narrow w v h (inf false) = least_of (2 ^ w - 1) (2 ^ v - 1) (less_one (2 ^ w) (2 ^ v) (pow_mono h))
narrow w v h (fin true m e) = least (2 ^ w - 1)
narrow w v h (fin false m e) = narrower (m * up e / down e) (2 ^ w - 1) (2 ^ v - 1) (less_one (2 ^ w) (2 ^ v) (pow_mono h))
