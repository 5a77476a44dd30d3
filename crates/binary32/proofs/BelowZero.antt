-- A value lies below zero where its pattern lies above that of -0. Assumes nothing.
use Rattle.std.proofs.Common.{◌≡◌, ℕ, ◌/◌, ◌<◌, ◌≤◌, Bool, true, false, cond, not, T, ltb, pos, sym, refl, ap, ◌∙◌, subst, inl, inr, true≢false, arith, ltb→lt, nltb→le}
use lib.Dec.{not_T}
use lib.Ieee.{Float, nan, inf, fin, binary32, lt, le, eq, fits, is_nan, of_bits, to_bits}
use lib.Ieee.Bits.{is_false, of_bits-to_bits, to_bits-lt}
use lib.Ieee.Scale.{finite}
use Rattle.binary32.specs.Leaves.{zero32, sign_of}
use Rattle.binary32.proofs.Truth.{yes_or_no, same_test}
use Rattle.binary32.proofs.Units.{Units, units_sign, units_unique, zero_units, zero-fits}
use Rattle.binary32.proofs.Between.{at_least, total, lt_le_clash}
use Rattle.binary32.proofs.Signs.{sign_bit, signed}

abbrev pub minus_zero : Float
minus_zero = fin true 0 (pos 0)

minus_zero_bits : to_bits binary32 minus_zero ≡ 0x8000_0000
unfolding to_bits
minus_zero_bits = refl

bits_minus_zero : of_bits binary32 0x8000_0000 ≡ minus_zero
unfolding of_bits
bits_minus_zero = refl

zero_not_below : T (lt minus_zero zero32) → ⊥
unfolding lt
zero_not_below h = h

-- what has the sign and isn't below zero is -0
finite_zero : (x : Float) → T (fits binary32 x) → T (finite x) → sign_of x ≡ true → T (le zero32 x) → x ≡ minus_zero
finite_zero x t f s h =
    let w = at_least t f (zero_units binary32 false) h in
    let none : w.count ≡ 0 = w.is.null (subst T (sym (sym (units_sign w.is) ∙ s)) tt) in
    units_unique t (zero-fits binary32 true) s (subst (Units binary32 x) none w.is) (zero_units binary32 true)

pub signed_zero : (x : Float) → T (fits binary32 x) → sign_of x ≡ true → T (le zero32 x) → x ≡ minus_zero
unfolding le lt eq
signed_zero nan t s h = absurd h
signed_zero (inf true) t s h = absurd h
signed_zero (inf false) t s h = absurd (true≢false (sym s))
signed_zero (fin u m e) t s h = finite_zero (fin u m e) t tt s h

-- the highest bit
upper : (b : ℕ) (s : Bool) → b / 0x8000_0000 ≡ cond s 1 0 → 0x8000_0000 < b → b < 0x1_0000_0000 → s ≡ true
upper b true e l h = refl
upper b false e l h = absurd (clash b e l h)
  where
    clash : (b : ℕ) → b / 0x8000_0000 ≡ 0 → 0x8000_0000 < b → b < 0x1_0000_0000 → ⊥
    clash b e l h = omega arith

module _ (x : Float) (t : T (fits binary32 x)) (n : T (not (is_nan x))) where
  abbrev b : ℕ
  b = to_bits binary32 x

  bit : b / 0x8000_0000 ≡ cond (sign_of x) 1 0
  bit = sign_bit binary32 x t (is_false (is_nan x) n)

  above : T (ltb 0x8000_0000 b) → T (lt x zero32)
  unfolding is_nan
  above h = elim (yes_or_no (lt x zero32)) [
    | inl l ↦ l
    | inr l ↦
        let more : 0x8000_0000 < b = ltb→lt 0x8000_0000 b h in
        let e : x ≡ minus_zero = signed_zero x t (upper b (sign_of x) bit more (to_bits-lt binary32 x t)) (total zero32 x tt n l) in
        absurd (same b more (ap (to_bits binary32) e ∙ minus_zero_bits))
  ]
    where
      same : (b : ℕ) → 0x8000_0000 < b → b ≡ 0x8000_0000 → ⊥
      same b l e = omega arith

  below : T (lt x zero32) → T (ltb 0x8000_0000 b)
  below h = elim (yes_or_no (ltb 0x8000_0000 b)) [
    | inl l ↦ l
    | inr l ↦
        let s : sign_of x ≡ true = signed x n (not_T (le zero32 x) (λ (k : T (le zero32 x)). lt_le_clash x zero32 h k)) in
        let e : b ≡ 0x8000_0000 = least b (bit ∙ ap (λ (s : Bool). cond s 1 0) s) (nltb→le 0x8000_0000 b l) in
        absurd (not-below (sym (of_bits-to_bits binary32 x t) ∙ ap (of_bits binary32) e ∙ bits_minus_zero) h)
  ]
    where
      least : (b : ℕ) → b / 0x8000_0000 ≡ 1 → b ≤ 0x8000_0000 → b ≡ 0x8000_0000
      least b e l = omega arith

      not-below : x ≡ minus_zero → T (lt x zero32) → ⊥
      not-below e h = zero_not_below (subst (λ (z : Float). T (lt z zero32)) e h)

  pub below_bits : ltb 0x8000_0000 b ≡ lt x zero32
  below_bits = same_test (ltb 0x8000_0000 b) (lt x zero32) above below
