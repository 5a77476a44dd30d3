-- A float of 64 bits by the fields of its pattern, as a number of units of 2 ^ -1074; and a whole number over a power of two as one. Assumes nothing.
use mathlib.Core.Path.{◌≡◌, refl, sym, ap, ◌∙◌}
use mathlib.Core.Bool.{Bool, true, false}
use Prim.Native.Nat.{ℕ, zero, suc, ◌+◌, ◌-◌, ◌*◌, ◌/◌, ◌%◌, ◌^◌, ◌≤◌, ◌<◌}
use native.Mathlib.Nat.{mul_assoc}
use native.Mathlib.Omega.{arith}
use lib.Dec.{eqb}
use lib.Pow.{pow-add, pow_pos}
use lib.Ieee.{Float, nan, inf, fin, binary32, binary64, up, down, odd, round, of_fields, of_bits, to_bits}
use lib.Ieee.Fits.{down_pos}
use lib.Ieee.Exact.{HasValue, odd_sign}
use lib.Ieee.Bits.{nan_bits_is, nan_bits_above}
use lib.Ieee.Scale.{round_same}
use borrow.Author.Tests.{eqb-true, eqb-false, ne_eqb, lt-ltb, le-leb, lt-leb}
use Rattle.binary32.proofs.Nans.{tells_nan}
use Rattle.wave_forms.specs.Values.{narrow_of, whole_of}
use Rattle.wave_forms.proofs.Narrowing.{signed_bits}

-- ---- floats
narrow_value : (x : Float) (s : Bool) (a c : ℕ) → 0 < c → HasValue x s a c → narrow_of x ≡ round binary32 s a c
narrow_value nan s a c C v = absurd v
narrow_value (inf t) s a c C v = absurd v
narrow_value (fin t m e) s a c C v = ap (λ (b : Bool). round binary32 b (m * up e) (down e)) v.0 ∙ round_same binary32 s (m * up e) (down e) a c (down_pos e) C v.1

fields_low : (s : Bool) (t : ℕ) → narrow_of (of_fields binary64 s 0 t) ≡ round binary32 s (t * 2 ^ 0) (2 ^ 1074)
unfolding of_fields
fields_low s t = narrow_value (odd 53 s t 0 1074) s (t * 2 ^ 0) (2 ^ 1074) (pow_pos 1074) (odd_sign 53 s t 0 1074)

fields_some : (s : Bool) (x t : ℕ) → (suc x ≡ 2047 → ⊥) → narrow_of (of_fields binary64 s (suc x) t) ≡ round binary32 s ((2 ^ 52 + t) * 2 ^ x) (2 ^ 1074)
unfolding of_fields
fields_some s x t h = rw (ne_eqb (suc x) 2047 h) (narrow_value (odd 53 s (2 ^ 52 + t) x 1074) s ((2 ^ 52 + t) * 2 ^ x) (2 ^ 1074) (pow_pos 1074) (odd_sign 53 s (2 ^ 52 + t) x 1074))

fields_top : (s : Bool) → narrow_of (of_fields binary64 s 2047 0) ≡ inf s
unfolding of_fields
fields_top s = refl

-- the word by its fields
pub low_word : (x t w : ℕ) → x ≡ 0 → w ≡ to_bits binary32 (round binary32 false (t * 2 ^ 0) (2 ^ 1074)) → w ≡ to_bits binary32 (narrow_of (of_fields binary64 false x t))
low_word x t w h e = rw h (e ∙ ap (to_bits binary32) (sym (fields_low false t)))

pub some_word : (x t : ℕ) → (x ≡ 0 → ⊥) → (x ≡ 2047 → ⊥) → to_bits binary32 (round binary32 false ((2 ^ 52 + t) * 2 ^ (x - 1)) (2 ^ 1074)) ≡ to_bits binary32 (narrow_of (of_fields binary64 false x t))
some_word zero t some h = absurd (some refl)
some_word (suc x) t some h =
    let less : suc x - 1 ≡ x = omega arith in
    rw less (ap (to_bits binary32) (sym (fields_some false x t h)))

pub top_word : (x t : ℕ) → x ≡ 2047 → t ≡ 0 → 0x7f80_0000 ≡ to_bits binary32 (narrow_of (of_fields binary64 false x t))
unfolding to_bits
top_word x t e h = rw (e, h) (ap (to_bits binary32) (sym (fields_top false)))

-- the sign
signed_top : to_bits binary32 (narrow_of (of_fields binary64 true 2047 0)) ≡ 2 ^ 31 + to_bits binary32 (narrow_of (of_fields binary64 false 2047 0))
unfolding to_bits
signed_top = ap (to_bits binary32) (fields_top true) ∙ ap (λ (y : Float). 2 ^ 31 + to_bits binary32 y) (sym (fields_top false))

signed_fields : (x t : ℕ) → (x ≡ 2047 → t ≡ 0) → to_bits binary32 (narrow_of (of_fields binary64 true x t)) ≡ 2 ^ 31 + to_bits binary32 (narrow_of (of_fields binary64 false x t))
signed_fields zero t h = ap (to_bits binary32) (fields_low true t) ∙ signed_bits _ _ ∙ ap (λ (y : Float). 2 ^ 31 + to_bits binary32 y) (sym (fields_low false t))
signed_fields (suc x) t h = go (eqb (suc x) 2047) refl
  where
    go : (b : Bool) → eqb (suc x) 2047 ≡ b → to_bits binary32 (narrow_of (of_fields binary64 true (suc x) t)) ≡ 2 ^ 31 + to_bits binary32 (narrow_of (of_fields binary64 false (suc x) t))
    go true e = let is = eqb-true _ _ e in rw (is, h is) signed_top
    go false e =
        let some = eqb-false _ _ e in
        ap (to_bits binary32) (fields_some true x t some) ∙ signed_bits _ _ ∙ ap (λ (y : Float). 2 ^ 31 + to_bits binary32 y) (sym (fields_some false x t some))

-- by its pattern
pub nan_word : (n : ℕ) → 0x7ff0_0000_0000_0000 < n % 2 ^ 63 → 0x7fc0_0000 ≡ to_bits binary32 (narrow_of (of_bits binary64 n))
unfolding to_bits
nan_word n h =
    let is : of_bits binary64 n ≡ nan = tells_nan (of_bits binary64 n) (sym (nan_bits_is binary64 n) ∙ nan_bits_above binary64 n ∙ lt-ltb _ _ h) in
    sym (ap (λ (y : Float). to_bits binary32 (narrow_of y)) is)

module _ (n w : ℕ) (e : w ≡ to_bits binary32 (narrow_of (of_fields binary64 false (n % 2 ^ 63 / 2 ^ 52) (n % 2 ^ 52)))) where
  pub plus_word : n < 2 ^ 63 → w ≡ to_bits binary32 (narrow_of (of_bits binary64 n))
  unfolding of_bits
  plus_word h = e ∙ ap (λ (b : Bool). to_bits binary32 (narrow_of (of_fields binary64 b (n % 2 ^ 63 / 2 ^ 52) (n % 2 ^ 52)))) (sym (lt-leb _ _ h))

  pub minus_word : 2 ^ 63 ≤ n → n % 2 ^ 63 ≤ 0x7ff0_0000_0000_0000 → 2 ^ 31 + w ≡ to_bits binary32 (narrow_of (of_bits binary64 n))
  unfolding of_bits
  minus_word h k =
      ap (λ (y : ℕ). 2 ^ 31 + y) e ∙ sym (signed_fields (n % 2 ^ 63 / 2 ^ 52) (n % 2 ^ 52) (λ g. omega arith))
      ∙ ap (λ (b : Bool). to_bits binary32 (narrow_of (of_fields binary64 b (n % 2 ^ 63 / 2 ^ 52) (n % 2 ^ 52)))) (sym (le-leb _ _ h))

-- ---- whole numbers
module _ (bits : ℕ) (some : 0 < bits) (few : bits ≤ 32) where
  over : (s : Bool) (n : ℕ) → round binary32 s (n * 2 ^ (1075 - bits)) (2 ^ 1074) ≡ round binary32 s n (2 ^ (bits - 1))
  over s n =
      let same : 1075 - bits + (bits - 1) ≡ 1074 = omega arith in
      round_same binary32 s (n * 2 ^ (1075 - bits)) (2 ^ 1074) n (2 ^ (bits - 1)) (pow_pos 1074) (pow_pos (bits - 1))
      (mul_assoc n (2 ^ (1075 - bits)) (2 ^ (bits - 1)) ∙ ap (λ (y : ℕ). n * y) (sym (pow-add 2 (1075 - bits) (bits - 1)) ∙ ap (λ (y : ℕ). 2 ^ y) same))

  module _ (n : ℕ) where
    pub plus_whole : (w : ℕ) → n < 2 ^ (bits - 1) → w ≡ to_bits binary32 (round binary32 false (n * 2 ^ (1075 - bits)) (2 ^ 1074)) → w ≡ to_bits binary32 (whole_of bits n)
    plus_whole w h e = rw (lt-leb (2 ^ (bits - 1)) n h) (e ∙ ap (to_bits binary32) (over false n))

    pub minus_whole : (m w : ℕ) → 2 ^ (bits - 1) ≤ n → m ≡ 2 ^ bits - n → w ≡ to_bits binary32 (round binary32 false (m * 2 ^ (1075 - bits)) (2 ^ 1074))
        → 2 ^ 31 + w ≡ to_bits binary32 (whole_of bits n)
    minus_whole m w h is e =
        rw (le-leb (2 ^ (bits - 1)) n h, ← is) (ap (λ (y : ℕ). 2 ^ 31 + y) (e ∙ ap (to_bits binary32) (over false m)) ∙ sym (signed_bits m (2 ^ (bits - 1))))
