-- A number of units of 2 ^ -1074 as a float of 32 bits, by whole numbers: which digits are kept, and the pattern that they make. Assumes nothing.
use mathlib.Core.Path.{◌≡◌, refl, sym, ap, ◌∙◌, subst}
use mathlib.Core.Bool.{true, false, not, true≢false}
use mathlib.Core.Logic.{inl, inr}
use Prim.Native.Nat.{ℕ, ◌+◌, ◌-◌, ◌*◌, ◌/◌, ◌%◌, ◌^◌, ◌≤◌, ◌<◌, compare}
use native.Mathlib.Nat.{le_trans, le_of_eq, lt_of_lt_of_le, lt_of_le_of_lt, lt_of_not-le, not-le_of_lt, eq-or-lt_of_le, mul_assoc, mul-pos, mul-le-mul_right, le-div_iff_mul-le, div-lt_iff_lt-mul, mod-eq_of_lt}
use native.Mathlib.Omega.{arith}
use lib.Dec.{T, ltb}
use lib.Arith.{le→nltb}
use lib.Pow.{pow-add, pow_pos, pow_mono, shl_lt}
use lib.Count.{count_leading_zeros}
use lib.Ieee.{Float, nan, inf, fin, binary32, size, odd, units, round, neg, is_nan, to_bits}
use lib.Ieee.Bits.{cond_no}
use lib.Ieee.Digits.{size-lt, size-le}
use lib.Ieee.Fits.{round_is}
use lib.Ieee.Exact.{units_val}
use lib.Ieee.Nearest.{closest, closest_same, nearest-ge}
use Rattle.binary32.specs.Leaves.{sign_of}
use Rattle.binary32.proofs.Tops.{top-le, below_top, from_top, zeros_few}
use Rattle.binary32.proofs.Rounding.{round_sign, round_not_nan, round_neg, round-zero}
use Rattle.binary32.proofs.Patterns.{units_bits}

-- ---- moved up by the zeros above its top digit, a number has 64 digits
moved_up : (m z : ℕ) → z < 64 → m < 2 ^ (64 - z) → m * 2 ^ z < 2 ^ 64
moved_up m z below hi =
    let same : 64 - z + z ≡ 64 = omega arith in
    lt_of_lt_of_le (shl_lt (64 - z) z hi) (le_of_eq (ap (λ (y : ℕ). 2 ^ y) same))

-- ---- the digits of a number with its top one at 63 - z, times 2 ^ x, over 2 ^ 1074
module _ (m x z d k : ℕ) (below : z < 64) (lo : 2 ^ (63 - z) ≤ m) (hi : m < 2 ^ (64 - z))
    (K : k ≡ x + 64 - z - 949) (D : d + (x + 64 - z) ≡ 989 + k) where
  abbrev whole : ℕ
  whole = m * 2 ^ x * 2 ^ 149 / 2 ^ 1074

  scaled : m * 2 ^ x * 2 ^ 149 ≡ m * 2 ^ (x + 149)
  scaled = mul_assoc m (2 ^ x) (2 ^ 149) ∙ ap (λ (y : ℕ). m * y) (sym (pow-add 2 x 149))

  most : size whole ≤ x + 64 - z - 925
  most =
      let e = x + 64 - z - 925 in
      let far : 64 - z + (x + 149) ≤ e + 1074 = omega arith in
      size-le whole e ((div-lt_iff_lt-mul (pow_pos 1074)).1
      (lt_of_le_of_lt (le_of_eq scaled) (lt_of_lt_of_le (shl_lt (64 - z) (x + 149) hi) (le_trans (pow_mono far) (le_of_eq (pow-add 2 e 1074))))))

  least : x + 64 - z - 925 ≤ size whole
  least = lt-of-not-le·le (λ (g : size whole < x + 64 - z - 925).
      let e = x + 64 - z - 926 in
      let far : e + 1074 ≤ 63 - z + (x + 149) = omega arith in
      let wide : 2 ^ e ≤ whole = (le-div_iff_mul-le (pow_pos 1074)).1
      (le_trans (le_of_eq (sym (pow-add 2 e 1074))) (le_trans (pow_mono far) (le_trans (le_of_eq (pow-add 2 (63 - z) (x + 149)))
      (le_trans (mul-le-mul_right (2 ^ (x + 149)) lo) (le_of_eq (sym scaled)))))) in
      not-le_of_lt (lt_of_lt_of_le (size-lt whole) (pow_mono {i = size whole} {j = e} (omega arith))) wide)
    where
      lt-of-not-le·le : {a b : ℕ} → (a < b → ⊥) → b ≤ a
      lt-of-not-le·le {a} {b} h = omega arith

  dropped : size whole - 24 ≡ k
  dropped = omega (arith, most, least)

  abbrev pub keeps : ℕ
  keeps = closest (m * 2 ^ z) (2 ^ d)

  kept_same : closest (m * 2 ^ x * 2 ^ 149) (2 ^ 1074 * 2 ^ k) ≡ keeps
  kept_same =
      let same : x + 149 + d ≡ z + (1074 + k) = omega arith in
      closest_same (m * 2 ^ x * 2 ^ 149) (2 ^ 1074 * 2 ^ k) (m * 2 ^ z) (2 ^ d) (mul-pos (pow_pos 1074) (pow_pos k)) (pow_pos d)
      (ap (λ (y : ℕ). y * 2 ^ d) scaled ∙ mul_assoc m (2 ^ (x + 149)) (2 ^ d) ∙ ap (λ (y : ℕ). m * y) (sym (pow-add 2 (x + 149) d) ∙ ap (λ (y : ℕ). 2 ^ y) same
      ∙ pow-add 2 z (1074 + k) ∙ ap (λ (y : ℕ). 2 ^ z * y) (pow-add 2 1074 k)) ∙ sym (mul_assoc m (2 ^ z) (2 ^ 1074 * 2 ^ k)))

  rounds : round binary32 false (m * 2 ^ x) (2 ^ 1074) ≡ units binary32 false keeps k
  rounds =
      round_is binary32 false (m * 2 ^ x) (2 ^ 1074)
      ∙ ap (λ (j : ℕ). units binary32 false (closest (m * 2 ^ x * 2 ^ 149) (2 ^ 1074 * 2 ^ j)) j) dropped
      ∙ ap (λ (q : ℕ). units binary32 false q k) kept_same

  pub few : keeps ≤ 2 ^ 24
  few =
      let far : 64 ≤ 24 + d = omega arith in
      top-le 24 (m * 2 ^ z) d (lt_of_lt_of_le (moved_up m z below hi) (pow_mono far))

  full : 0 < k → 2 ^ 23 ≤ keeps
  full h =
      let same : 23 + d ≡ 63 - z + z = omega arith in
      le_trans ((le-div_iff_mul-le (pow_pos d)).1 (le_trans (le_of_eq (sym (pow-add 2 23 d) ∙ ap (λ (y : ℕ). 2 ^ y) same ∙ pow-add 2 (63 - z) z))
      (mul-le-mul_right (2 ^ z) lo))) (nearest-ge (m * 2 ^ z / 2 ^ d) (compare (m * 2 ^ z % 2 ^ d * 2) (2 ^ d)))

  -- the pattern, where it is a float's, and where it is too large for any
  pub pattern_below : k * 0x80_0000 + keeps < 0x7f80_0000 → k * 0x80_0000 + keeps ≡ to_bits binary32 (round binary32 false (m * 2 ^ x) (2 ^ 1074))
  pattern_below h =
      let small : k < 254 = lt_of_not-le (λ (g : 254 ≤ k). let more = full (omega arith) in omega arith) in
      let under : keeps * 2 ^ k < 2 ^ 277 = elim (eq-or-lt_of_le {n = k} {m = 253} (omega arith)) [
        | inl e ↦ let fits : keeps < 2 ^ 24 = omega arith in subst (λ (y : ℕ). keeps * 2 ^ y < 2 ^ 277) (sym e) (shl_lt 24 253 fits)
        | inr l ↦ let fits : keeps < 2 ^ 25 = omega (arith, few) in lt_of_lt_of_le (shl_lt 25 k fits) (pow_mono {i = 25 + k} {j = 277} (omega arith))
      ] in
      sym (ap (to_bits binary32) rounds ∙ units_bits binary32 keeps k few full (units binary32 false keeps k) (units_val binary32 false keeps k under))

  pub pattern_over : 0x7f80_0000 ≤ k * 0x80_0000 + keeps → 0x7f80_0000 ≡ to_bits binary32 (round binary32 false (m * 2 ^ x) (2 ^ 1074))
  unfolding to_bits units
  pattern_over h =
      let large : 253 ≤ k = omega (arith, few) in
      let over : 2 ^ 277 ≤ keeps * 2 ^ k = elim (eq-or-lt_of_le {n = 253} {m = k} large) [
        | inl e ↦ let fits : 2 ^ 24 ≤ keeps = omega arith in subst (λ (y : ℕ). 2 ^ 277 ≤ keeps * 2 ^ y) e (mul-le-mul_right (2 ^ 253) fits)
        | inr l ↦ le_trans (pow_mono {i = 277} {j = 23 + k} (omega arith)) (le_trans (le_of_eq (pow-add 2 23 k)) (mul-le-mul_right (2 ^ k) (full (omega arith))))
      ] in
      sym (ap (to_bits binary32) (rounds ∙ cond_no (ltb (keeps * 2 ^ k) (2 ^ 277)) (odd 25 false keeps k 149) (inf false) (le→nltb (keeps * 2 ^ k) (2 ^ 277) over)))

-- ---- 0, and a value below 0
pub zero_bits : (x : ℕ) → 0 ≡ to_bits binary32 (round binary32 false (0 * 2 ^ x) (2 ^ 1074))
unfolding to_bits
zero_bits x = sym (ap (λ (n : ℕ). to_bits binary32 (round binary32 false n (2 ^ 1074))) (zero_times x) ∙ ap (to_bits binary32) (round-zero binary32 false (2 ^ 1074) (pow_pos 1074)))
  where
    zero_times : (x : ℕ) → 0 * 2 ^ x ≡ 0
    zero_times x = omega arith

neg_bits : (x : Float) → sign_of x ≡ false → T (not (is_nan x)) → to_bits binary32 (neg x) ≡ 2 ^ 31 + to_bits binary32 x
unfolding neg to_bits is_nan
neg_bits nan s n = absurd n
neg_bits (inf true) s n = absurd (true≢false s)
neg_bits (inf false) s n = refl
neg_bits (fin true m e) s n = absurd (true≢false s)
neg_bits (fin false m e) s n = omega arith

pub signed_bits : (a c : ℕ) → to_bits binary32 (round binary32 true a c) ≡ 2 ^ 31 + to_bits binary32 (round binary32 false a c)
signed_bits a c = ap (to_bits binary32) (round_neg binary32 false a c) ∙ neg_bits (round binary32 false a c) (round_sign binary32 false a c) (round_not_nan binary32 false a c)

-- ---- by the zeros above a number's top digit, as the machine counts them
pub record Zeros (m : ℕ) : Type 0 where
  pub below : count_leading_zeros 64 m < 64
  pub lo : 2 ^ (63 - count_leading_zeros 64 m) ≤ m
  pub hi : m < 2 ^ (64 - count_leading_zeros 64 m)

pub zeros_of : (m : ℕ) → 0 < m → m < 2 ^ 64 → Zeros m
zeros_of m some fit =
    let below : count_leading_zeros 64 m + 0 < 64 = zeros_few 64 m some fit 0 some in
    record {
      below = omega arith;
      lo = from_top 64 m some fit (63 - count_leading_zeros 64 m) (omega arith);
      hi = below_top 64 m some fit (64 - count_leading_zeros 64 m) (omega arith);
    }

-- what the code works with: k and `digits` are what it is answered
module _ (m x k digits : ℕ) (some : m ≡ 0 → ⊥) (fit : m < 2 ^ 64) (K : k ≡ x + 64 - count_leading_zeros 64 m - 949)
    (is : digits ≡ closest (m * 2 ^ count_leading_zeros 64 m % 2 ^ 64) (2 ^ (989 + k - (x + 64 - count_leading_zeros 64 m)))) where
  z : Zeros m
  z = zeros_of m (omega arith) fit

  ends : 989 + k - (x + 64 - count_leading_zeros 64 m) + (x + 64 - count_leading_zeros 64 m) ≡ 989 + k
  ends = omega arith

  are : digits ≡ closest (m * 2 ^ count_leading_zeros 64 m) (2 ^ (989 + k - (x + 64 - count_leading_zeros 64 m)))
  are = is ∙ ap (λ (n : ℕ). closest n (2 ^ (989 + k - (x + 64 - count_leading_zeros 64 m)))) (mod-eq_of_lt (moved_up m (count_leading_zeros 64 m) z.below z.hi))

  pub digits_few : digits ≤ 2 ^ 24
  digits_few = le_trans (le_of_eq are) (few m x _ _ k z.below z.lo z.hi K ends)

  pub narrowed_below : k * 0x80_0000 + digits < 0x7f80_0000 → k * 0x80_0000 + digits ≡ to_bits binary32 (round binary32 false (m * 2 ^ x) (2 ^ 1074))
  narrowed_below h = ap (λ (n : ℕ). k * 0x80_0000 + n) are ∙ pattern_below m x _ _ k z.below z.lo z.hi K ends (omega (arith, are))

  pub narrowed_over : 0x7f80_0000 ≤ k * 0x80_0000 + digits → 0x7f80_0000 ≡ to_bits binary32 (round binary32 false (m * 2 ^ x) (2 ^ 1074))
  narrowed_over h = pattern_over m x _ _ k z.below z.lo z.hi K ends (omega (arith, are))
