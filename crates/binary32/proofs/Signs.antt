-- The sign bit of a value is the highest bit of its pattern, in any format, and says whether the value lies below zero. Assumes nothing.
use Rattle.std.proofs.Common.{◌≡◌, ℕ, zero, suc, ◌+◌, ◌-◌, ◌*◌, ◌/◌, ◌%◌, ◌<◌, ◌≤◌, Bool, true, false, cond, not, ◌||◌, T, eqb, leb, pos, sym, refl, ap, ◌∙◌, subst, true≢false, zero-le, zero-lt-suc, mul-pos, zero-mul, arith, le→leb, T_not, pow_pos, leb-false, leb-true}
use native.Mathlib.Nat.{div-eq_of_lt, div-eq_of_lt-le}
use mathlib.Core.Bool.{beq}
use lib.Ieee.{Float, nan, inf, fin, Format, binary32, eq, ne, le, up, down, prec, low, hid, ones, top, odd, fits, is_nan, of_fields, of_bits, to_bits}
use lib.Ieee.Fits.{down_pos}
use lib.Ieee.Bits.{of_bits-to_bits, to_bits-lt}
use Rattle.binary32.specs.Leaves.{sign_of, crossing_of}
use Rattle.binary32.proofs.Nans.{no_nan, nan_test}
use Rattle.binary32.proofs.Values.{le_value}

odd_sign : (d : ℕ) (s : Bool) (q k l : ℕ) → sign_of (odd d s q k l) ≡ s
unfolding odd
odd_sign d s zero k l = refl
odd_sign d s (suc q) k l = refl

fields_sign : (f : Format) (s : Bool) (x t : ℕ) → is_nan (of_fields f s x t) ≡ false → sign_of (of_fields f s x t) ≡ s
unfolding of_fields is_nan
fields_sign f s zero t h = odd_sign (prec f) s t 0 (low f)
fields_sign f s (suc x) t h = go (eqb (suc x) (ones f)) (eqb t 0) h
  where
    go : (a b : Bool) → is_nan (cond a (cond b (inf s) nan) (odd (prec f) s (hid f + t) x (low f))) ≡ false → sign_of (cond a (cond b (inf s) nan) (odd (prec f) s (hid f + t) x (low f))) ≡ s
    go true true g = refl
    go true false g = absurd (true≢false g)
    go false b g = odd_sign (prec f) s (hid f + t) x (low f)

pattern_sign : (f : Format) (b : ℕ) → is_nan (of_bits f b) ≡ false → sign_of (of_bits f b) ≡ leb (top f) b
unfolding of_bits
pattern_sign f b h = fields_sign f (leb (top f) b) (b % top f / hid f) (b % hid f) h

top_pos : (f : Format) → 0 < top f
top_pos f = mul-pos (pow_pos (prec f - 1)) (zero-lt-suc (ones f))

upper_half : (b h : ℕ) → 0 < h → b < 2 * h → b / h ≡ cond (leb h b) 1 0
upper_half b h H B = go (leb h b) refl
  where
    at_least : (b h : ℕ) → h ≤ b → 1 * h ≤ b
    at_least b h g = omega arith

    go : (t : Bool) → leb h b ≡ t → b / h ≡ cond t 1 0
    go true e = div-eq_of_lt-le h (at_least b h (leb-true h b e)) B
    go false e = div-eq_of_lt (leb-false h b e)

pub sign_bit : (f : Format) (x : Float) → T (fits f x) → is_nan x ≡ false → to_bits f x / top f ≡ cond (sign_of x) 1 0
sign_bit f x F N =
    let b = to_bits f x in
    let back : of_bits f b ≡ x = of_bits-to_bits f x F in
    upper_half b (top f) (top_pos f) (to_bits-lt f x F)
    ∙ ap (λ (t : Bool). cond t 1 0) (sym (pattern_sign f b (ap is_nan back ∙ N)) ∙ ap sign_of back)

-- ---- the tests of a crossing: NaN first
pub neither : (x y : Float) → (ne x x || ne y y) ≡ false → (is_nan x ≡ false) × (is_nan y ≡ false)
neither x y h = go (ne x x) (ne y y) refl refl h
  where
    go : (a b : Bool) → ne x x ≡ a → ne y y ≡ b → (a || b) ≡ false → (is_nan x ≡ false) × (is_nan y ≡ false)
    go false false p q e = (no_nan x p, no_nan y q)
    go false true p q e = absurd (true≢false e)
    go true b p q e = absurd (true≢false e)

pub crossing_nan : (x y : Float) → (ne x x || ne y y) ≡ true → true ≡ crossing_of x y
unfolding crossing_of
crossing_nan x y h =
    let k : (is_nan x || is_nan y) ≡ true = simp (nan_test x, nan_test y) at h in
    simp k

-- then the highest bits
pub crossing_signs : (x y : Float) → T (fits binary32 x) → T (fits binary32 y) → (ne x x || ne y y) ≡ false
    → (not (eqb (to_bits binary32 x / 0x8000_0000) (to_bits binary32 y / 0x8000_0000)) || eq x (of_bits binary32 0)) ≡ crossing_of x y
unfolding crossing_of of_bits
crossing_signs x y F G h =
    let n = neither x y h in
    simp (sign_bit binary32 x F n.0, sign_bit binary32 y G n.1, n.0, n.1, alike (sign_of x) (sign_of y))
  where
    alike : (s t : Bool) → eqb (cond s 1 0) (cond t 1 0) ≡ beq s t
    alike true true = refl
    alike true false = refl
    alike false true = refl
    alike false false = refl

-- with no sign bit a value is not below zero
pub unsigned : (x : Float) → T (not (is_nan x)) → sign_of x ≡ false → T (le (fin false 0 (pos 0)) x)
unfolding is_nan
unsigned nan n s = absurd n
unsigned (inf true) n s = absurd (true≢false s)
unsigned (inf false) n s = unfold le in tt
unsigned (fin true m e) n s = absurd (true≢false s)
unsigned (fin false m e) n s =
    subst T (sym (le_value (fin false 0 (pos 0)) (fin false m e) false 0 false (m * up e) (down e) (down_pos e) (refl, zero-mul (down e)) (refl, refl)))
    (le→leb 0 (m * up e) zero-le)

-- and what is below zero has one
pub signed : (x : Float) → T (not (is_nan x)) → T (not (le (fin false 0 (pos 0)) x)) → sign_of x ≡ true
signed x n h = go (sign_of x) refl
  where
    go : (s : Bool) → sign_of x ≡ s → s ≡ true
    go true e = refl
    go false e = absurd (T_not (le (fin false 0 (pos 0)) x) h (unsigned x n e))
