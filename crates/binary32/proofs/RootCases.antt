-- The cases of `binary32::sqrt` and `binary32::root_of`, by their tests. Assumes nothing.
use Rattle.std.proofs.Common.{◌≡◌, ℕ, zero, suc, ◌+◌, ◌-◌, ◌*◌, ◌/◌, ◌^◌, ◌<◌, ◌≤◌, true, false, T, ℤ, sym, refl, ap, ◌∙◌, subst, inl, inr, true≢false, lt_of_lt_of_le, zero-lt-suc, mul_assoc, eq-zero-or-pos, mul-pos, zero-mul, not-le_of_lt, mul-div_cancel, arith, pow_mono, pow-add, shl_lt, ltb-false, ltb-true}
use lib.Ieee.{Float, nan, inf, fin, binary32, up, down, size, round, lt, is_nan, fits, of_bits, to_bits}
use lib.Ieee.Digits.{size-le}
use lib.Ieee.Fits.{up_pos, down_pos, kept-lt}
use lib.Ieee.Back.{whole_unique}
use lib.Ieee.Scale.{overflow}
use Rattle.binary32.specs.Leaves.{zero32, bits_of, float_of, root_below, isqrt, root_of}
use Rattle.binary32.proofs.Units.{grid_multiple, on_grid}
use Rattle.binary32.proofs.Rounding.{round_grid}
use Rattle.binary32.proofs.Patterns.{value_back, bits_units}
use Rattle.binary32.proofs.Roots.{root_units}

-- ---- above zero
pub above_no_nan : (x : Float) → lt zero32 x ≡ true → is_nan x ≡ false
unfolding lt is_nan
above_no_nan nan h = absurd (true≢false (sym h))
above_no_nan (inf s) h = refl
above_no_nan (fin s m e) h = refl

pub above_pattern : (x : Float) → T (fits binary32 x) → lt zero32 x ≡ true → 0 < bits_of x
unfolding of_bits lt
above_pattern x f h = elim (eq-zero-or-pos (bits_of x)) [
  | inl z ↦
      let e : x ≡ zero32 = sym (value_back x f) ∙ ap float_of z in
      absurd (true≢false (sym (ap (lt zero32) (sym e) ∙ h)))
  | inr p ↦ p
]

-- a finite float's pattern is below that of the infinity
pub finite_pattern : (m : ℕ) (e : ℤ) → T (fits binary32 (fin false m e)) → bits_of (fin false m e) < 0x7f80_0000
unfolding to_bits
finite_pattern m e f =
    let g = on_grid binary32 (fin false m e) tt f in
    let n = g.count in
    let is : m * up e * 2 ^ 149 / down e ≡ n = ap (λ (z : ℕ). z / down e) g.is.1 ∙ mul-div_cancel n (down_pos e) in
    subst (λ (z : ℕ). 0 + (size z - 24) * 2 ^ 23 + z / 2 ^ (size z - 24) < 0x7f80_0000) (sym is) (go (size n) (n / 2 ^ (size n - 24)) (size-le n 277 g.under) (kept-lt 24 n))
  where
    go : (z t : ℕ) → z ≤ 277 → t < 2 ^ 24 → 0 + (z - 24) * 2 ^ 23 + t < 0x7f80_0000
    go z t h k = omega arith

pub infinite : (x : Float) → T (fits binary32 x) → lt zero32 x ≡ true → 0x7f80_0000 ≤ bits_of x → x ≡ root_of x
unfolding lt root_of
infinite nan f h l = refl
infinite (inf true) f h l = absurd (true≢false (sym h))
infinite (inf false) f h l = refl
infinite (fin true m e) f h l = absurd (true≢false (sym h))
infinite (fin false m e) f h l = absurd (not-le_of_lt (finite_pattern m e f) l)

-- the root of the float whose pattern is that of m * 2 ^ drop units
pub pattern_root : (m drop : ℕ) → m < 2 ^ 24 → drop < 254 → (0 < drop → 2 ^ 23 ≤ m) → root_of (float_of (drop * 2 ^ 23 + m)) ≡ round binary32 false (isqrt (m * 2 ^ (drop + 149))) (2 ^ 149)
pattern_root m drop few small full =
    let under : m * 2 ^ drop < overflow binary32 = lt_of_lt_of_le (shl_lt 24 drop few) (pow_mono {i = 24 + drop} {j = 277} (omega arith)) in
    let le : m ≤ 2 ^ 24 = omega arith in
    ap root_of (bits_units binary32 m drop le full under)
    ∙ root_units (round binary32 false (m * 2 ^ drop) (2 ^ 149)) (m * 2 ^ drop) (round_grid false (grid_multiple binary32 m drop le) under)
    ∙ ap (λ (z : ℕ). round binary32 false (isqrt z) (2 ^ 149)) (mul_assoc m (2 ^ drop) (2 ^ 149) ∙ ap (λ (z : ℕ). m * z) (sym (pow-add 2 drop 149)))

-- ---- below zero, and neither above nor below
pub below-zero : (x : Float) → lt x zero32 ≡ true → nan ≡ root_of x
unfolding lt root_of
below-zero nan h = refl
below-zero (inf true) h = refl
below-zero (inf false) h = absurd (true≢false (sym h))
below-zero (fin true zero e) h = absurd (none (0 * up e * 1) (0 * 1 * down e) (ap (λ (z : ℕ). z * 1) (zero-mul (up e))) (zero-mul (down e)) (ltb-true _ _ h))
  where
    none : (a b : ℕ) → a ≡ 0 → b ≡ 0 → 0 < a + b → ⊥
    none a b p q h = omega arith
below-zero (fin true (suc m) e) h = refl
below-zero (fin false m e) h = absurd (none (m * up e * 1) (0 * 1 * down e) (zero-mul (down e)) (ltb-true _ _ h))
  where
    none : (a b : ℕ) → b ≡ 0 → a < b → ⊥
    none a b q h = omega arith

zero_itself : zero32 ≡ root_of zero32
unfolding root_of isqrt root_below size round
zero_itself = refl

some : (m : ℕ) (e : ℤ) → 0 < suc m * up e * 1
some m e = mul-pos (mul-pos (zero-lt-suc m) (up_pos e)) (zero-lt-suc 0)

pub zero_or_nan : (x : Float) → T (fits binary32 x) → lt zero32 x ≡ false → lt x zero32 ≡ false → x ≡ root_of x
unfolding lt root_of fits
zero_or_nan nan f h k = refl
zero_or_nan (inf true) f h k = absurd (true≢false k)
zero_or_nan (inf false) f h k = absurd (true≢false h)
zero_or_nan (fin true zero e) f h k = refl
zero_or_nan (fin true (suc m) e) f h k = absurd (none (suc m * up e * 1) (0 * 1 * down e) (some m e) (ltb-false _ _ k))
  where
    none : (a b : ℕ) → 0 < a → a + b ≤ 0 → ⊥
    none a b p h = omega arith
zero_or_nan (fin false zero e) f h k =
    let z : zero32 ≡ fin false 0 e = whole_unique binary32 zero32 (fin false 0 e) false 0 tt f (refl, refl) (refl, simp zero-mul) in
    sym z ∙ zero_itself ∙ ap root_of z
zero_or_nan (fin false (suc m) e) f h k = absurd (none (suc m * up e * 1) (0 * 1 * down e) (some m e) (zero-mul (down e)) (ltb-false _ _ h))
  where
    none : (a b : ℕ) → 0 < a → b ≡ 0 → a ≤ b → ⊥
    none a b p q h = omega arith
