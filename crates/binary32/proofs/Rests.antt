-- The remainder by the mantissas as whole numbers: of m * 2 ^ j by n * 2 ^ k units, where k is at most j, it is m * 2 ^ (j - k) % n times 2 ^ k units.
-- `pattern_value` reads a pattern as digits and places, `places_rest` is the remainder, and `left_float` puts it back together. Assumes nothing.
use Rattle.std.proofs.Common.{◌≡◌, ℕ, zero, suc, ◌+◌, ◌-◌, ◌*◌, ◌%◌, ◌^◌, ◌<◌, ◌≤◌, Bool, true, false, not, T, pos, sym, refl, ap, ◌∙◌, subst, true≢false, inl, inr, zero-mul, zero-lt-suc, ltb-false, ltb-true, lt-ltb, le_trans, le_of_eq, lt_of_lt_of_le, le_of_lt, mul-le-mul_right, mul_assoc, mul-pos, one-mul, mod-eq_of_lt, arith, lit<, lit≤, mul-one, pow_pos, pow_mono, pow-add, shl_lt, not-le_of_lt}
use Rattle.std.proofs.lemmas.Nat.{mul-mod_first}
use lib.Ieee.{Float, nan, inf, fin, binary32, round, rem, mul, neg, lt, is_nan, nan_bits, fits, of_int, to_bits, up, down}
use lib.Arith.{le→nltb}
use lib.Ieee.Fits.{up_pos, round-fits}
use lib.Ieee.Bits.{nan_bits_is, is_true}
use lib.Pow.{pow-lt}
use lib.Ieee.Exact.{HasValue}
use lib.Ieee.Scale.{overflow}
use Rattle.binary32.specs.Leaves.{zero32, bits_of, float_of, abs_of}
use Rattle.binary32.proofs.Truth.{yes, no, yes_or_no}
use Rattle.binary32.proofs.Nans.{tells_nan}
use Rattle.binary32.proofs.Values.{mod_scale, mul_value, rem_value}
use Rattle.binary32.proofs.Units.{Grid, grid_multiple, pow_over}
use Rattle.binary32.proofs.Rounding.{round_grid, round_not_nan}
use Rattle.binary32.proofs.Patterns.{bits_units}
use Rattle.binary32.proofs.Halves.{of_int_whole}
use Rattle.binary32.proofs.Between.{total, le_lt_trans}
use Rattle.binary32.proofs.Remainders.{rem_less, rem_small}
use Rattle.binary32.proofs.RootCases.{finite_pattern}

-- ---- a pattern of j exponents' weights and m

-- what a pattern says: m is below 2 ^ 24, and has all of 24 digits but where j is 0
pub record Places (m j : ℕ) : Type 0 where
  pub few : m < 2 ^ 24
  pub full : 0 < j → 2 ^ 23 ≤ m
  pub small : j < 254

module _ (m j : ℕ) (p : Places m j) where
  under : m * 2 ^ j < overflow binary32
  under = lt_of_lt_of_le (shl_lt 24 j p.few) (pow_mono {i = 24 + j} {j = 277} (omega (arith, p.small)))

  pub pattern_round : float_of (j * 2 ^ 23 + m) ≡ round binary32 false (m * 2 ^ j) (2 ^ 149)
  pattern_round = bits_units binary32 m j (le_of_lt p.few) p.full under

  pub pattern_value : HasValue (float_of (j * 2 ^ 23 + m)) false (m * 2 ^ j) (2 ^ 149)
  pattern_value =
      subst (λ (x : Float). HasValue x false (m * 2 ^ j) (2 ^ 149)) (sym pattern_round)
      (round_grid false (grid_multiple binary32 m j (le_of_lt p.few)) under)

-- what `binary32::places` says of a pattern
abbrev pub Read : ℕ → ℕ → Type 0
Read b j = (j * 2 ^ 23 ≤ b) × (b < j * 2 ^ 23 + 2 ^ 24) × (0 < j → j * 2 ^ 23 + 2 ^ 23 ≤ b) × (j < 254)

pub digits_read : (b j : ℕ) → Read b j → Places (b - j * 2 ^ 23) j
digits_read b j r =
    let few : b < j * 2 ^ 23 + 2 ^ 24 = r.1 in
    let full : 0 < j → j * 2 ^ 23 + 2 ^ 23 ≤ b = r.2 in
    record { few = omega arith; full = λ (h : 0 < j). omega arith; small = r.3 }

pub read_back : (b j : ℕ) → Read b j → j * 2 ^ 23 + (b - j * 2 ^ 23) ≡ b
read_back b j r = let at : j * 2 ^ 23 ≤ b = r.0 in omega arith

pub some_digits : (b j : ℕ) → Read b j → 0 < b → 0 < b - j * 2 ^ 23
some_digits b zero r h = omega arith
some_digits b (suc j) r h = let full : suc j * 2 ^ 23 + 2 ^ 23 ≤ b = r.2 (zero-lt-suc j) in omega arith

-- ---- the remainder
module _ (m j n k : ℕ) (p : Places m j) (q : Places n k) where
  abbrev x : Float
  x = float_of (j * 2 ^ 23 + m)

  abbrev y : Float
  y = float_of (k * 2 ^ 23 + n)

  pub places_rest : 0 < n → k ≤ j → rem binary32 x y ≡ round binary32 false (m * 2 ^ (j - k) % n * 2 ^ k) (2 ^ 149)
  places_rest N h =
      rem_value binary32 x y false (m * 2 ^ j) false (n * 2 ^ k) (2 ^ 149) (pow_pos 149) (mul-pos N (pow_pos k)) (pattern_value m j p) (pattern_value n k q)
      ∙ ap (λ (z : ℕ). round binary32 false z (2 ^ 149))
      (ap (λ (z : ℕ). z % (n * 2 ^ k)) (pow_over m j k h) ∙ mod_scale (m * 2 ^ (j - k)) n (2 ^ k) N (pow_pos k))

  -- fewer places: smaller
  pub places_less : j < k → rem binary32 x y ≡ x
  places_less h =
      rem_less binary32 x y false (m * 2 ^ j) false (n * 2 ^ k) (2 ^ 149) (pow_pos 149) held (pattern_value m j p) (pattern_value n k q)
      (lt_of_lt_of_le (shl_lt 24 j p.few)
      (le_trans (pow_mono {i = 24 + j} {j = 23 + k} (omega arith))
      (le_trans (le_of_eq (pow-add 2 23 k)) (mul-le-mul_right (2 ^ k) (q.full (omega arith))))))
    where
      held : T (fits binary32 x)
      held = subst (λ (z : Float). T (fits binary32 z)) (sym (pattern_round m j p)) (round-fits binary32 false (m * 2 ^ j) (2 ^ 149))

-- ---- q units of 2 ^ k, as a product
pub left_float : (q k : ℕ) → q ≤ 2 ^ 24 → k < 254 → mul binary32 (of_int binary32 (pos q)) (round binary32 false (2 ^ k) (2 ^ 149)) ≡ round binary32 false (q * 2 ^ k) (2 ^ 149)
left_float q k h l =
    let u = round binary32 false (2 ^ k) (2 ^ 149) in
    let one : 1 * 2 ^ k ≡ 2 ^ k = one-mul (2 ^ k) in
    let small : 2 ^ k < overflow binary32 = pow-lt {i = k} {j = 277} (omega arith) in
    let v : HasValue u false (2 ^ k) (2 ^ 149) = round_grid false (subst (Grid binary32) one (grid_multiple binary32 1 k (pow_pos 24))) small in
    mul_value binary32 (of_int binary32 (pos q)) u false q 1 false (2 ^ k) (2 ^ 149) (pow_pos 0) (pow_pos 149) (of_int_whole binary32 q h) v
    ∙ ap (round binary32 false (q * 2 ^ k)) (one-mul (2 ^ 149))

-- ---- a step of the loop
pub step : (r s t b : ℕ) → r * 2 ^ s % b * 2 ^ t % b ≡ r * 2 ^ (s + t) % b
step r s t b = mul-mod_first (r * 2 ^ s) (2 ^ t) b ∙ ap (λ (z : ℕ). z % b) (mul_assoc r (2 ^ s) (2 ^ t) ∙ ap (λ (z : ℕ). r * z) (sym (pow-add 2 s t)))

pub fits_word : (r s : ℕ) → r < 2 ^ 24 → s ≤ 32 → r * 2 ^ s % 2 ^ 64 ≡ r * 2 ^ s
fits_word r s h l = mod-eq_of_lt (lt_of_lt_of_le (shl_lt 24 s h) (pow_mono {i = 24 + s} {j = 64} (omega arith)))

-- ---- the cases by sign
pub rem_size_only : (x y : Float) → rem binary32 x (abs_of y) ≡ rem binary32 x y
unfolding rem
rem_size_only nan y = refl
rem_size_only (inf s) y = refl
rem_size_only (fin s m e) nan = refl
rem_size_only (fin s m e) (inf t) = refl
rem_size_only (fin s m e) (fin t n d) = refl

-- neither above zero nor below: smaller than each divisor
no_larger : (x : Float) → T (not (is_nan x)) → lt zero32 x ≡ false → lt x zero32 ≡ false → T (not (lt zero32 (abs_of x)))
unfolding lt is_nan
no_larger nan n h k = absurd n
no_larger (inf true) n h k = absurd (true≢false k)
no_larger (inf false) n h k = absurd (true≢false h)
no_larger (fin false m e) n h k = no h
no_larger (fin true m e) n h k = le→nltb _ _ (none (m * up e * 1) (0 * 1 * down e) (ltb-false _ _ k))
  where
    none : (a b : ℕ) → a + b ≤ 0 → a ≤ b
    none a b h = omega arith

pub zero_rest : (x y : Float) → T (fits binary32 x) → lt zero32 x ≡ false → lt x zero32 ≡ false → lt zero32 (abs_of y) ≡ true → x ≡ rem binary32 x y
unfolding rem is_nan
zero_rest x y t h k l = elim (yes_or_no (is_nan x)) [
  | inl n ↦ tells_nan x (is_true (is_nan x) n) ∙ sym (ap (λ (z : Float). rem binary32 z y) (tells_nan x (is_true (is_nan x) n)) ∙ of_nan y)
  | inr n ↦ sym (rem_small binary32 x y t (le_lt_trans (abs_of x) zero32 (abs_of y) (total (abs_of x) zero32 (size_number x n) tt (no_larger x n h k)) (yes l)))
]
  where
    of_nan : (y : Float) → rem binary32 nan y ≡ nan
    of_nan y = refl

    size_number : (x : Float) → T (not (is_nan x)) → T (not (is_nan (abs_of x)))
    size_number nan n = n
    size_number (inf s) n = tt
    size_number (fin s m e) n = tt

-- no divisor above zero in size
pub no_divisor : (x y : Float) → lt zero32 (abs_of y) ≡ false → nan ≡ rem binary32 x y
unfolding rem lt
no_divisor nan y h = refl
no_divisor (inf s) y h = refl
no_divisor (fin s m e) nan h = refl
no_divisor (fin s m e) (inf t) h = absurd (true≢false h)
no_divisor (fin s m e) (fin t zero d) h = refl
no_divisor (fin s m e) (fin t (suc n) d) h = absurd (none (suc n * up d * 1) (0 * 1 * down d) (mul-pos (mul-pos (zero-lt-suc n) (up_pos d)) (zero-lt-suc 0)) (zero-mul (down d)) (ltb-false _ _ h))
  where
    none : (a b : ℕ) → 0 < a → b ≡ 0 → a ≤ b → ⊥
    none a b p q h = omega arith

pub neg_above : (x : Float) → lt x zero32 ≡ true → lt zero32 (neg x) ≡ true
unfolding lt neg
neg_above nan h = absurd (true≢false (sym h))
neg_above (inf true) h = refl
neg_above (inf false) h = absurd (true≢false (sym h))
neg_above (fin true m e) h = lt-ltb _ _ (some (m * up e * 1) (0 * 1 * down e) (zero-mul (down e)) (ltb-true _ _ h))
  where
    some : (a b : ℕ) → b ≡ 0 → 0 < a + b → b < a
    some a b q h = omega arith
neg_above (fin false m e) h = absurd (none (m * up e * 1) (0 * 1 * down e) (zero-mul (down e)) (ltb-true _ _ h))
  where
    none : (a b : ℕ) → b ≡ 0 → a < b → ⊥
    none a b q h = omega arith

-- ---- infinities
pub infinite_above : (x : Float) → T (fits binary32 x) → lt zero32 x ≡ true → 0x7f80_0000 ≤ bits_of x → x ≡ inf false
unfolding lt
infinite_above nan f h l = absurd (true≢false (sym h))
infinite_above (inf true) f h l = absurd (true≢false (sym h))
infinite_above (inf false) f h l = refl
infinite_above (fin true m e) f h l = absurd (true≢false (sym h))
infinite_above (fin false m e) f h l = absurd (not-le_of_lt (finite_pattern m e f) l)

pub by_infinity : (x : Float) → lt zero32 x ≡ true → bits_of x < 0x7f80_0000 → x ≡ rem binary32 x (inf false)
unfolding lt rem to_bits
by_infinity nan h l = refl
by_infinity (inf true) h l = absurd (true≢false (sym h))
by_infinity (inf false) h l = absurd (not-le_of_lt l (lit≤ tt))
by_infinity (fin s m e) h l = refl

pub of_infinity : (y : Float) → nan ≡ rem binary32 (inf false) y
unfolding rem
of_infinity y = refl

-- ---- 2 ^ k units by their pattern: a digit where k is below 23, and from there an exponent alone
pub unit_low : (k : ℕ) → k < 23 → float_of (1 * 2 ^ k % 2 ^ 32) ≡ round binary32 false (2 ^ k) (2 ^ 149)
unit_low k h =
    let few : 2 ^ k < 2 ^ 24 = pow-lt {i = k} {j = 24} (omega arith) in
    let p : Places (2 ^ k) 0 = record { few = few; full = λ (z : 0 < 0). omega arith; small = omega arith } in
    ap float_of (one_word (2 ^ k) few) ∙ pattern_round (2 ^ k) 0 p ∙ ap (λ (z : ℕ). round binary32 false z (2 ^ 149)) (mul-one (2 ^ k))
  where
    one_word : (a : ℕ) → a < 2 ^ 24 → 1 * a % 2 ^ 32 ≡ 0 * 2 ^ 23 + a
    one_word a h = omega arith

pub unit_high : (k : ℕ) → 23 ≤ k → k < 254 → float_of ((k - 22) * 2 ^ 23) ≡ round binary32 false (2 ^ k) (2 ^ 149)
unit_high k l h =
    let p : Places (2 ^ 23) (k - 23) = record { few = lit< tt; full = λ (z : 0 < k - 23). lit≤ tt; small = omega arith } in
    let e : 2 ^ 23 * 2 ^ (k - 23) ≡ 2 ^ k = sym (pow-add 2 23 (k - 23)) ∙ ap (λ (z : ℕ). 2 ^ z) (omega arith) in
    ap float_of (omega arith) ∙ pattern_round (2 ^ 23) (k - 23) p ∙ ap (λ (z : ℕ). round binary32 false z (2 ^ 149)) e

pub no_nan_bits : (b a c : ℕ) → float_of b ≡ round binary32 false a c → T (not (nan_bits binary32 b))
no_nan_bits b a c e = subst (λ (t : Bool). T (not t)) (sym (nan_bits_is binary32 b ∙ ap is_nan e)) (round_not_nan binary32 false a c)
