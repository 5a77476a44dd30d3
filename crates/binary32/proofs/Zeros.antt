-- Zeros of either sign, which are equal, in sums and products. Assumes nothing.
--     plus_none      a finite value plus a finite one times a zero is equal to the value: of -0 and +0 the sum is +0, which is equal to -0
--     equal_times    equal values that are finite give equal products by a finite factor: zeros give zeros
use Rattle.std.proofs.Common.{◌≡◌, ℕ, zero, suc, ◌*◌, ◌^◌, ◌<◌, Bool, true, false, ◌||◌, T, eqb, ltb, pos, sym, refl, ap, ◌∙◌, subst, ap₂, inl, inr, true≢false, zero-le, add-zero, zero-lt-suc, mul-pos, mul-zero, zero-mul, mul-one, eqb→eq, pow_pos, lt-ltb}
use native.Mathlib.Nat.{sub-zero}
use mathlib.Core.Bool.{beq}
use lib.Ieee.{Float, nan, inf, fin, Format, low, up, down, unlike, round, sum, add, mul, eq, level, fits}
use lib.Ieee.Fits.{eq→eqb, and_i, and_l, and_r}
use lib.Ieee.Bits.{is_true}
use lib.Ieee.Exact.{HasValue}
use lib.Ieee.Scale.{finite}
use Rattle.binary32.specs.Leaves.{zero32, sign_of}
use Rattle.binary32.proofs.Truth.{yes, or_split}
use Rattle.binary32.proofs.Nans.{equals_itself}
use Rattle.binary32.proofs.Values.{common, eq_value, add_value, mul_value}
use Rattle.binary32.proofs.Units.{on_grid}
use Rattle.binary32.proofs.Rounding.{round_grid, round-zero, round_not_nan}
use Rattle.binary32.proofs.Sums.{sum_like, sum_under}

abbrev zero_of : Bool → Float
zero_of s = fin s 0 (pos 0)

-- ---- products

-- what is equal to 0 is none of any unit
zero_value : (z : Float) (c : ℕ) → eq z zero32 ≡ true → HasValue z (sign_of z) 0 c
unfolding eq
zero_value nan c h = absurd (true≢false (sym h))
zero_value (inf s) c h = absurd (true≢false (sym h))
zero_value (fin s m e) c h =
    let n = m * up e in
    let none : n * 1 ≡ 0 * 1 * down e = eqb→eq (n * 1) (0 * 1 * down e) (and_l (eqb (n * 1) (0 * 1 * down e)) (beq s false || eqb (n * 1) 0) (yes h)) in
    (refl, ap (λ (k : ℕ). k * c) (sym (mul-one n) ∙ none ∙ zero-mul (down e)) ∙ zero-mul c ∙ sym (zero-mul (down e)))

zero-product : (f : Format) (d z : Float) → T (finite d) → eq z zero32 ≡ true → mul f d z ≡ zero_of (unlike (sign_of d) (sign_of z))
zero-product f d z t h =
    let k = common d d t t in
    let u = unlike (sign_of d) (sign_of z) in
    mul_value f d z (sign_of d) k.left k.over (sign_of z) 0 1 k.over_pos (pow_pos 0) k.is_left (zero_value z 1 h)
    ∙ ap (λ (n : ℕ). round f u n (k.over * 1)) (mul-zero k.left)
    ∙ round-zero f u (k.over * 1) (mul-pos k.over_pos (pow_pos 0))

-- ---- sums
level_itself : (s : Bool) (n : ℕ) → T (level s n s n)
level_itself true n = and_i (eqb n n) true (eq→eqb {a = n} refl) tt
level_itself false n = and_i (eqb n n) true (eq→eqb {a = n} refl) tt

-- only of a zero the sign may change
sum_none : (f : Format) (s : Bool) (n : ℕ) (t : Bool) (c : ℕ) → (u : Bool) × (sum f s n t 0 c ≡ round f u n c) × T (level u n s n)
sum_none f true n true c = (true, sum_like f true n 0 c ∙ ap (λ (k : ℕ). round f true k c) (add-zero n), level_itself true n)
sum_none f false n false c = (false, sum_like f false n 0 c ∙ ap (λ (k : ℕ). round f false k c) (add-zero n), level_itself false n)
sum_none f false n true c = (false, sum_under f false n 0 c zero-le ∙ ap (λ (k : ℕ). round f false k c) (sub-zero n), level_itself false n)
sum_none f true n false c = (ltb 0 n, sum_under f true n 0 c zero-le ∙ ap (λ (k : ℕ). round f (ltb 0 n) k c) (sub-zero n), kept n)
  where
    kept : (n : ℕ) → T (level (ltb 0 n) n true n)
    kept zero = tt
    kept (suc n) = subst (λ (u : Bool). T (level u (suc n) true (suc n))) (sym (lt-ltb 0 (suc n) (zero-lt-suc n))) (level_itself true (suc n))

plus_zero : (f : Format) (x : Float) (t : Bool) → T (finite x) → T (fits f x) → eq (add f x (zero_of t)) x ≡ true
plus_zero f x t p h =
    let k = on_grid f x p h in
    let n = k.count in
    let c = 2 ^ low f in
    let (u, is, same) = sum_none f (sign_of x) n t c in
    ap (λ (y : Float). eq y x) (add_value f x (zero_of t) (sign_of x) n t 0 c (pow_pos (low f)) k.is (refl, zero-mul c) ∙ is)
    ∙ eq_value (round f u n c) x u n (sign_of x) n c (pow_pos (low f)) (round_grid u k.grid k.under) k.is
    ∙ is_true (level u n (sign_of x) n) same

pub plus_none : (f : Format) (x d z : Float) → T (finite x) → T (fits f x) → T (finite d) → eq z zero32 ≡ true → eq (add f x (mul f d z)) x ≡ true
plus_none f x d z p h t e = ap (λ (y : Float). eq (add f x y) x) (zero-product f d z t e) ∙ plus_zero f x (unlike (sign_of d) (sign_of z)) p h

-- ---- products of equal values
zeros_equal : (s t : Bool) → eq (zero_of s) (zero_of t) ≡ true
unfolding eq
zeros_equal true true = refl
zeros_equal true false = refl
zeros_equal false true = refl
zeros_equal false false = refl

same_sign : (s t : Bool) → T (beq s t) → s ≡ t
same_sign true true h = refl
same_sign true false h = absurd h
same_sign false true h = absurd h
same_sign false false h = refl

round_level : (f : Format) (v s : Bool) (a : ℕ) (t : Bool) (b n c : ℕ) → 0 < c → T (level s a t b) → eq (round f (unlike s v) (a * n) c) (round f (unlike t v) (b * n) c) ≡ true
round_level f v s a t b n c C h = elim (or_split (beq s t) (eqb a 0) (and_r (eqb a b) (beq s t || eqb a 0) h)) [
  | inl like ↦
      let x = round f (unlike t v) (b * n) c in
      ap₂ (λ (w : Bool) (k : ℕ). eq (round f (unlike w v) (k * n) c) x) (same_sign s t like) even ∙ equals_itself x (round_not_nan f (unlike t v) (b * n) c)
  | inr null ↦ let none : a ≡ 0 = eqb→eq a 0 null in ap₂ eq (nothing s a none) (nothing t b (sym even ∙ none)) ∙ zeros_equal (unlike s v) (unlike t v)
]
  where
    even : a ≡ b
    even = eqb→eq a b (and_l (eqb a b) (beq s t || eqb a 0) h)

    nothing : (w : Bool) (k : ℕ) → k ≡ 0 → round f (unlike w v) (k * n) c ≡ zero_of (unlike w v)
    nothing w k e = ap (λ (i : ℕ). round f (unlike w v) i c) (ap (λ (i : ℕ). i * n) e ∙ zero-mul n) ∙ round-zero f (unlike w v) c C

-- what is equal to a finite value is finite
equal_finite : (x y : Float) → T (finite y) → eq x y ≡ true → T (finite x)
unfolding eq
equal_finite nan y t h = absurd (true≢false (sym h))
equal_finite (inf s) nan t h = absurd t
equal_finite (inf s) (inf u) t h = absurd t
equal_finite (inf s) (fin u n d) t h = absurd (true≢false (sym h))
equal_finite (fin s m e) y t h = tt

pub equal_times : (f : Format) (x y l : Float) → T (finite y) → T (finite l) → eq x y ≡ true → eq (mul f x l) (mul f y l) ≡ true
equal_times f x y l q r h =
    let i = common x y (equal_finite x y q h) q in
    let j = common l l r r in
    let s = sign_of x in
    let t = sign_of y in
    let v = sign_of l in
    ap₂ eq (mul_value f x l s i.left i.over v j.left j.over i.over_pos j.over_pos i.is_left j.is_left)
    (mul_value f y l t i.right i.over v j.left j.over i.over_pos j.over_pos i.is_right j.is_left)
    ∙ round_level f v s i.left t i.right j.left (i.over * j.over) (mul-pos i.over_pos j.over_pos)
    (yes (sym (eq_value x y s i.left t i.right i.over i.over_pos i.is_left i.is_right) ∙ h))
