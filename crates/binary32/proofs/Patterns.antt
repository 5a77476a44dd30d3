-- Bit patterns and values, there and back. Assumes nothing.
use Rattle.std.proofs.Common.{◌≡◌, ℕ, zero, suc, ◌+◌, ◌-◌, ◌*◌, ◌/◌, ◌%◌, ◌^◌, ◌<◌, ◌≤◌, Bool, true, false, cond, ◌&&◌, T, eqb, ltb, leb, pos, sym, refl, ap, ◌∙◌, ap₂, inl, inr, true≢false, suc-le-suc, zero-le, le_trans, le_of_eq, le_refl, lt_of_lt_of_le, lt_of_le_of_lt, mul-le-mul_right, mul_assoc, suc-mul, le_antisymm, eq-or-lt_of_le, one-mul, zero-add, mul-one, div-one, mul-div_cancel, arith, le→leb, lt→ltb, pow_pos, pow-add, shl_lt}
use native.Mathlib.Nat.{pow-succ'}
use lib.Pow.{pow-lt, shl-shr}
use lib.Ieee.{Float, nan, inf, fin, Format, binary32, prec, emax, low, up, down, hid, size, round, fits, is_nan, of_bits, to_bits}
use lib.Ieee.Digits.{size-lt, size-le}
use lib.Ieee.Fits.{two, two-le_pos, reach, and_i, down_pos, round-fits}
use lib.Ieee.Bits.{of_bits-to_bits, to_bits-of_bits}
use lib.Ieee.Exact.{HasValue}
use lib.Ieee.Scale.{overflow}
use Rattle.binary32.specs.Leaves.{bits_of, float_of}
use Rattle.binary32.proofs.Truth.{no}
use Rattle.binary32.proofs.Nans.{tells_nan}
use Rattle.binary32.proofs.Units.{grid_multiple}
use Rattle.binary32.proofs.Rounding.{size_is, round_grid}
use Rattle.binary32.proofs.WholeRoots.{pow_lt_back}

-- every value comes back from its pattern
pub value_back : (x : Float) → T (fits binary32 x) → float_of (bits_of x) ≡ x
value_back x h = of_bits-to_bits binary32 x h

-- every pattern comes back from its value, but that the NaN patterns become one
pub pattern_back : (b : ℕ) → b < 2 ^ 32 → bits_of (float_of b) ≡ cond (is_nan (float_of b)) 0x7fc0_0000 b
unfolding to_bits
pattern_back b h = go (is_nan (float_of b)) refl
  where
    go : (t : Bool) → is_nan (float_of b) ≡ t → bits_of (float_of b) ≡ cond t 0x7fc0_0000 b
    go true e = ap bits_of (tells_nan (float_of b) e)
    go false e = to_bits-of_bits binary32 b h (no e)

-- a power of two has no digits below its leading one: its pattern is the exponent's field alone
module _ (f : Format) (d : ℕ) (h : d ≤ emax f) where
  power_fits : T (fits f (fin false 1 (pos d)))
  unfolding fits
  power_fits =
      and_i (eqb (1 % 2) 1 && ltb 1 (2 ^ prec f) && leb 1 (2 ^ low f)) (ltb (1 * 2 ^ d) (2 ^ suc (emax f) * 1))
      (and_i (eqb (1 % 2) 1 && ltb 1 (2 ^ prec f)) (leb 1 (2 ^ low f))
      (lt→ltb 1 (2 ^ prec f) (pow-lt (two-le_pos (prec f) (two f))))
      (le→leb 1 (2 ^ low f) (pow_pos (low f))))
      (lt→ltb (1 * 2 ^ d) (2 ^ suc (emax f) * 1) (lt_of_lt_of_le (lt_of_le_of_lt (le_of_eq (one-mul (2 ^ d))) (pow-lt (suc-le-suc h))) (le_of_eq (sym (mul-one (2 ^ suc (emax f)))))))

  field : to_bits f (fin false 1 (pos d)) ≡ (d + emax f) * hid f
  unfolding to_bits
  field =
      let n = 1 * 2 ^ d * 2 ^ low f / 1 in
      let j = d + emax f - 1 in
      let many : suc j ≡ d + emax f = omega (arith, two f, reach f) in
      let e : n ≡ 2 ^ (d + low f) = div-one (1 * 2 ^ d * 2 ^ low f) ∙ ap (λ (z : ℕ). z * 2 ^ low f) (one-mul (2 ^ d)) ∙ sym (pow-add 2 d (low f)) in
      let k : size n - prec f ≡ j = ap (λ (z : ℕ). size z - prec f) e ∙ omega (arith, two f, reach f, size_is (2 ^ (d + low f)) (d + low f) (le_refl (2 ^ (d + low f))) (pow-lt (le_refl (suc (d + low f))))) in
      let top : n / 2 ^ j ≡ hid f = ap (λ (z : ℕ). z / 2 ^ j) (e ∙ ap (λ (z : ℕ). 2 ^ z) (omega (arith, two f, reach f)) ∙ pow-add 2 (prec f - 1) j) ∙ shl-shr (hid f) j in
      ap (λ (z : ℕ). 0 + z * hid f + n / 2 ^ z) k ∙ ap (λ (z : ℕ). z + n / 2 ^ j) (zero-add (j * hid f)) ∙ ap (λ (z : ℕ). j * hid f + z) top ∙ sym (suc-mul j (hid f)) ∙ ap (λ (z : ℕ). z * hid f) many

  pub power_bits : of_bits f ((d + emax f) * hid f) ≡ fin false 1 (pos d)
  power_bits = ap (of_bits f) (sym field) ∙ of_bits-to_bits f (fin false 1 (pos d)) power_fits

-- ---- q * 2 ^ j units, where q has all the digits that the format keeps, or nothing is dropped: the pattern is j exponents' weights and q, whose leading digit adds one more.
-- A q of 2 ^ prec, to which a carry may lead, adds two.
module _ (f : Format) (q j : ℕ) (few : q ≤ 2 ^ prec f) (full : 0 < j → hid f ≤ q) where
  abbrev dropped : ℕ
  dropped = size (q * 2 ^ j) - prec f

  abbrev Pattern : Type 0
  Pattern = dropped * hid f + q * 2 ^ j / 2 ^ dropped ≡ j * hid f + q

  drops : q < 2 ^ prec f → dropped ≡ j
  drops l = le_antisymm most (least j refl)
    where
      most : dropped ≤ j
      most = omega (arith, size-le (q * 2 ^ j) (prec f + j) (shl_lt (prec f) j l))

      least : (i : ℕ) → i ≡ j → j ≤ dropped
      least zero e = le_trans (le_of_eq (sym e)) zero-le
      least (suc i) e =
          let J : 0 < j = omega arith in
          let wide : 2 ^ (prec f - 1 + j) ≤ q * 2 ^ j = le_trans (le_of_eq (pow-add 2 (prec f - 1) j)) (mul-le-mul_right (2 ^ j) (full J)) in
          omega (arith, two f, pow_lt_back (prec f - 1 + j) (size (q * 2 ^ j)) (lt_of_le_of_lt wide (size-lt (q * 2 ^ j))))

  plain : q < 2 ^ prec f → Pattern
  plain l = ap (λ (z : ℕ). z * hid f + q * 2 ^ j / 2 ^ z) (drops l) ∙ ap (λ (z : ℕ). j * hid f + z) (shl-shr q j)

  carried : q ≡ 2 ^ prec f → Pattern
  carried e =
      let twice : 2 ^ prec f ≡ hid f * 2 = ap (λ (z : ℕ). 2 ^ z) (omega (arith, two f)) ∙ pow-add 2 (prec f - 1) 1 in
      let is : q * 2 ^ j ≡ 2 ^ (prec f + j) = ap (λ (z : ℕ). z * 2 ^ j) e ∙ sym (pow-add 2 (prec f) j) in
      let more : q * 2 ^ j ≡ hid f * 2 ^ suc j = ap (λ (z : ℕ). z * 2 ^ j) (e ∙ twice) ∙ mul_assoc (hid f) 2 (2 ^ j) ∙ ap (λ (z : ℕ). hid f * z) (sym (pow-succ' 2 j)) in
      let k : dropped ≡ suc j = ap (λ (z : ℕ). size z - prec f) is ∙ omega (arith, size_is (2 ^ (prec f + j)) (prec f + j) (le_refl (2 ^ (prec f + j))) (pow-lt (le_refl (suc (prec f + j))))) in
      ap (λ (z : ℕ). z * hid f + q * 2 ^ j / 2 ^ z) k
      ∙ ap₂ (λ (a b : ℕ). a + b) (suc-mul j (hid f)) (ap (λ (z : ℕ). z / 2 ^ suc j) more ∙ shl-shr (hid f) (suc j))
      ∙ go (j * hid f) (hid f) q (e ∙ twice)
    where
      go : (a h q : ℕ) → q ≡ h * 2 → a + h + h ≡ a + q
      go a h q e = omega arith

  pattern : Pattern
  pattern = elim (eq-or-lt_of_le few) [ inl e ↦ carried e | inr l ↦ plain l ]

  pub units_bits : (x : Float) → HasValue x false (q * 2 ^ j) (2 ^ low f) → to_bits f x ≡ j * hid f + q
  unfolding to_bits
  units_bits nan v = absurd v
  units_bits (inf s) v = absurd v
  units_bits (fin true m e) v = absurd (true≢false v.0)
  units_bits (fin false m e) v =
      let is : m * up e * 2 ^ low f / down e ≡ q * 2 ^ j = ap (λ (z : ℕ). z / down e) v.1 ∙ mul-div_cancel (q * 2 ^ j) (down_pos e) in
      ap (λ (n : ℕ). 0 + (size n - prec f) * hid f + n / 2 ^ (size n - prec f)) is ∙ ap (λ (z : ℕ). z + q * 2 ^ j / 2 ^ dropped) (zero-add (dropped * hid f)) ∙ pattern

  pub bits_units : q * 2 ^ j < overflow f → of_bits f (j * hid f + q) ≡ round f false (q * 2 ^ j) (2 ^ low f)
  bits_units under =
      let x = round f false (q * 2 ^ j) (2 ^ low f) in
      ap (of_bits f) (sym (units_bits x (round_grid false (grid_multiple f q j few) under))) ∙ of_bits-to_bits f x (round-fits f false (q * 2 ^ j) (2 ^ low f))
