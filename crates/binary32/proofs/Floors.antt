-- What `floor_of` is worth: the whole number at or below x, exactly. And a cast to an unsigned type sees no fraction. Assumes nothing.
use Rattle.std.proofs.Common.{◌≡◌, ℕ, zero, suc, ◌+◌, ◌-◌, ◌*◌, ◌/◌, ◌%◌, ◌^◌, ◌<◌, ◌≤◌, min, Bool, true, false, cond, ◌&&◌, T, eqb, ltb, leb, ℤ, pos, negsuc, sym, refl, ap, ◌∙◌, subst, true≢false, le_trans, le_of_eq, lt_of_lt_of_le, le_of_suc-le-suc, add-zero, le_of_lt, zero-lt-suc, suc-mul, div-lt_iff_lt-mul, add-mul, le_antisymm, mul-le-mul_left, zero-mul, mul-one, mul_right_comm, div-mul-le_self, mul-div_cancel, arith, lit≤, ltb→lt, lt→ltb, pow_pos, pow_mono, ltb-false, ltb-true, leb-false, leb-true}
use native.Mathlib.Nat.{mul-add-div_right, div-eq_of_lt, lt-div-mul-add, div-eq_of_lt-le, zero-div, eq_of_mul-eq-mul_right}
use lib.Ieee.{Float, nan, inf, fin, Format, binary32, binary64, prec, emax, low, up, down, round, lt, neg, add, sum, fits, to_unsigned}
use lib.Ieee.Fits.{and_l, and_r, down_pos}
use lib.Ieee.Exact.{HasValue}
use lib.Ieee.Back.{round_whole}
use lib.Ieee.Nearest.{div_same}
use Rattle.binary32.specs.Leaves.{floor_of, sign_of}
use Rattle.binary32.proofs.Truth.{yes}
use Rattle.binary32.proofs.Values.{lt_value, add_value, value_sign, value_same}
use Rattle.binary32.proofs.Units.{Units, on_grid, lt_units, power_units}
use Rattle.binary32.proofs.Rounding.{round_held, round_neg}
use Rattle.binary32.proofs.Snap.{floored, floor_is as whole_is}

-- ---- a value of 2 ^ (prec - 1) or more is whole, in any format
few_digits : (f : Format) (s : Bool) (m : ℕ) (e : ℤ) → T (fits f (fin s m e)) → m < 2 ^ prec f
unfolding fits
few_digits f s zero e h = pow_pos (prec f)
few_digits f s (suc m) e h =
    let a : Bool = eqb (suc m % 2) 1 in
    let b : Bool = ltb (suc m) (2 ^ prec f) in
    let c : Bool = leb (down e) (2 ^ low f) in
    let d : Bool = ltb (suc m * up e) (2 ^ suc (emax f) * down e) in
    ltb→lt (suc m) (2 ^ prec f) (and_r a b (and_l (a && b) c (and_l (a && b && c) d h)))

twice : (f : Format) → 2 ^ (prec f - 1) * 2 ≡ 2 ^ prec f
twice binary32 = refl
twice binary64 = refl

two_halves : (h p d m : ℕ) → h * 2 ≡ p → h * 2 ≤ h * d → h * d ≤ m * 1 → m < p → ⊥
two_halves h p d m e a b c = let x : m * 1 ≡ m = mul-one m in omega arith

pub large_whole : (f : Format) (s : Bool) (m : ℕ) (e : ℤ) → T (fits f (fin s m e)) → 2 ^ (prec f - 1) * down e ≤ m * up e → down e ≡ 1
large_whole f s m (pos k) h g = refl
large_whole f s m (negsuc k) h g =
    absurd (two_halves (2 ^ (prec f - 1)) (2 ^ prec f) (2 ^ suc k) m (twice f) (mul-le-mul_left (2 ^ (prec f - 1)) (pow_mono {i = 1} {j = suc k} (more k))) g (few_digits f s m (negsuc k) h))
  where
    more : (k : ℕ) → 1 ≤ suc k
    more k = omega arith

-- ---- the size of x, cut toward minus infinity
abbrev pub cut : Bool → ℕ → ℕ → ℕ
cut false n d = n / d
cut true n d = (n + (d - 1)) / d

floor_is : (s : Bool) (m : ℕ) (e : ℤ) → floor_of (fin s m e) ≡ round binary32 s (cut s (m * up e) (down e)) 1
unfolding floor_of
floor_is false m e = refl
floor_is true m e = refl

cut-whole : (s : Bool) (n d c : ℕ) → 0 < d → n ≡ c * d → cut s n d ≡ c
cut-whole false n d c D h = ap (λ (z : ℕ). z / d) h ∙ mul-div_cancel c D
cut-whole true n d c D h = ap (λ (z : ℕ). (z + (d - 1)) / d) h ∙ mul-add-div_right D c (d - 1) ∙ ap (λ (z : ℕ). c + z) (div-eq_of_lt (less d D)) ∙ add-zero c
  where
    less : (d : ℕ) → 0 < d → d - 1 < d
    less d D = omega arith

-- a whole number is its own floor
pub floor_whole : (s : Bool) (m : ℕ) (e : ℤ) (c : ℕ) → T (fits binary32 (fin s m e)) → m * up e ≡ c * down e → floor_of (fin s m e) ≡ fin s m e
floor_whole s m e c h v =
    floor_is s m e
    ∙ ap (λ (z : ℕ). round binary32 s z 1) (cut-whole s (m * up e) (down e) c (down_pos e) v)
    ∙ round_held binary32 (fin s m e) s c 1 (zero-lt-suc 0) h (refl, mul-one (m * up e) ∙ v)

pub floor_large : (s : Bool) (m : ℕ) (e : ℤ) → T (fits binary32 (fin s m e)) → 8388608 * down e ≤ m * up e → floor_of (fin s m e) ≡ fin s m e
floor_large s m e h g = floor_whole s m e (m * up e) h (sym (mul-one (m * up e)) ∙ ap (λ (z : ℕ). m * up e * z) (sym (large_whole binary32 s m e h g)))

cut_small : (s : Bool) (n d p : ℕ) → 0 < d → n < p * d → cut s n d ≤ p
cut_small false n d p D h = le_of_lt ((div-lt_iff_lt-mul D).1 h)
cut_small true n d p D h = le_of_suc-le-suc ((div-lt_iff_lt-mul D).1 (lt_of_lt_of_le (next (p * d) n d h D) (le_of_eq (sym (suc-mul p d)))))
  where
    next : (q n d : ℕ) → n < q → 0 < d → n + (d - 1) < q + d
    next q n d g D = omega arith

-- `round` changes nothing in the definition of `floor_of`
pub floor_exact : (s : Bool) (m : ℕ) (e : ℤ) → T (fits binary32 (fin s m e)) → HasValue (floor_of (fin s m e)) s (cut s (m * up e) (down e)) 1
floor_exact s m e h = go (leb (8388608 * down e) (m * up e)) refl
  where
    go : (b : Bool) → leb (8388608 * down e) (m * up e) ≡ b → HasValue (floor_of (fin s m e)) s (cut s (m * up e) (down e)) 1
    go true t =
        let n = m * up e in
        let g : 8388608 * down e ≤ n = leb-true _ _ t in
        let v : n ≡ n * down e = sym (mul-one n) ∙ ap (λ (z : ℕ). n * z) (sym (large_whole binary32 s m e h g)) in
        subst (λ (y : Float). HasValue y s (cut s n (down e)) 1) (sym (floor_large s m e h g))
        (subst (λ (z : ℕ). HasValue (fin s m e) s z 1) (sym (cut-whole s n (down e) n (down_pos e) v)) (refl, mul-one n ∙ v))
    go false t =
        let c = cut s (m * up e) (down e) in
        subst (λ (y : Float). HasValue y s c 1) (sym (floor_is s m e)) (round_whole binary32 s c (le_trans (cut_small s (m * up e) (down e) 8388608 (down_pos e) (leb-false _ _ t)) (lit≤ tt)))

-- ---- a cast to an unsigned type
value_cast : (w : ℕ) (x : Float) (s : Bool) (c : ℕ) → HasValue x s c 1 → to_unsigned w x ≡ cond s 0 (min c (2 ^ w - 1))
unfolding to_unsigned
value_cast w nan s c h = absurd h
value_cast w (inf t) s c h = absurd h
value_cast w (fin t m e) s c h =
    ap (λ (b : Bool). cond b 0 (min (m * up e / down e) (2 ^ w - 1))) h.0
    ∙ ap (λ (z : ℕ). cond s 0 (min (z / down e) (2 ^ w - 1))) (sym (mul-one (m * up e)) ∙ h.1)
    ∙ ap (λ (z : ℕ). cond s 0 (min z (2 ^ w - 1))) (mul-div_cancel c (down_pos e))

-- the floor casts to what the value itself casts to
pub floor_cast : (w : ℕ) (x : Float) → T (fits binary32 x) → to_unsigned w (floor_of x) ≡ to_unsigned w x
unfolding to_unsigned
floor_cast w nan h = unfold floor_of in refl
floor_cast w (inf s) h = unfold floor_of in refl
floor_cast w (fin true m e) h = value_cast w (floor_of (fin true m e)) true (cut true (m * up e) (down e)) (floor_exact true m e h)
floor_cast w (fin false m e) h = value_cast w (floor_of (fin false m e)) false (m * up e / down e) (floor_exact false m e h)

-- ---- the arms of `binary32::floor`, by the tests that lead there
none_below : (a d : ℕ) → a < 0 * 1 * d → ⊥
none_below a d h = omega arith

whole_large : (s : Bool) (m : ℕ) (e : ℤ) → T (fits binary32 (fin s m e)) → 1 * 8388608 * down e ≤ m * up e * 1 → fin s m e ≡ floor_of (fin s m e)
whole_large s m e h g = sym (floor_large s m e h (simp mul-one at g))

pub above_large : (x : Float) → T (fits binary32 x) → lt (fin false 0 (pos 0)) x ≡ true → lt x (fin false 1 (pos 23)) ≡ false → x ≡ floor_of x
unfolding lt
above_large nan f h k = absurd (true≢false (sym h))
above_large (inf s) f h k = unfold floor_of in refl
above_large (fin true m e) f h k = absurd (true≢false (sym h))
above_large (fin false m e) f h k = whole_large false m e f (ltb-false _ _ k)

pub below_large : (x : Float) → T (fits binary32 x) → lt x (fin false 0 (pos 0)) ≡ true → lt (fin true 1 (pos 23)) x ≡ false → x ≡ floor_of x
unfolding lt
below_large nan f h k = absurd (true≢false (sym h))
below_large (inf s) f h k = unfold floor_of in refl
below_large (fin true m e) f h k = whole_large true m e f (ltb-false _ _ k)
below_large (fin false m e) f h k = absurd (none_below (m * up e * 1) (down e) (ltb-true _ _ h))

pub neither : (x : Float) → T (fits binary32 x) → lt (fin false 0 (pos 0)) x ≡ false → lt x (fin false 0 (pos 0)) ≡ false → x ≡ floor_of x
unfolding lt
neither nan f h k = unfold floor_of in refl
neither (inf s) f h k = unfold floor_of in refl
neither (fin true m e) f h k = sym (floor_whole true m e 0 f (nothing (m * up e) (down e) (ltb-false _ _ k) ∙ sym (zero-mul (down e))))
  where
    nothing : (n d : ℕ) → n * 1 + 0 * 1 * d ≤ 0 → n ≡ 0
    nothing n d h = omega arith
neither (fin false m e) f h k = sym (floor_whole false m e 0 f (nothing (m * up e) (down e) (ltb-false _ _ h) ∙ sym (zero-mul (down e))))
  where
    nothing : (n d : ℕ) → n * 1 ≤ 0 * 1 * d → n ≡ 0
    nothing n d h = omega arith

-- a value below zero and above -2 ^ 23, turned round
pub turned : (x : Float) → lt x (fin false 0 (pos 0)) ≡ true → lt (fin true 1 (pos 23)) x ≡ true → T (lt (fin false 0 (pos 0)) (neg x)) × T (lt (neg x) (fin false 1 (pos 23)))
unfolding lt neg
turned nan h k = absurd (true≢false (sym h))
turned (inf true) h k = absurd (true≢false (sym k))
turned (inf false) h k = absurd (true≢false (sym h))
turned (fin true m e) h k = (lt→ltb _ _ (some (m * up e) (down e) (ltb-true _ _ h)), yes k)
  where
    some : (n d : ℕ) → 0 < n * 1 + 0 * 1 * d → 0 * 1 * d < n * 1
    some n d h = omega arith
turned (fin false m e) h k = absurd (none_below (m * up e * 1) (down e) (ltb-true _ _ h))

-- ---- the floor of a value below zero, from the floor of its size: one more where that lies below the size
over : (x : Float) (s : Bool) (a d : ℕ) → HasValue x s a 1 → HasValue x s (a * d) d
over nan s a d h = h
over (inf t) s a d h = h
over (fin t m e) s a d h = (h.0, ap (λ (z : ℕ). z * d) (sym (mul-one (m * up e)) ∙ h.1) ∙ mul_right_comm a (down e) d)

below_size : (m : ℕ) (e : ℤ) → T (fits binary32 (fin false m e)) → lt (floor_of (fin false m e)) (fin false m e) ≡ ltb (m * up e / down e * down e) (m * up e)
below_size m e h =
    lt_value (floor_of (fin false m e)) (fin false m e) false (m * up e / down e * down e) false (m * up e) (down e) (down_pos e)
    (over (floor_of (fin false m e)) false (m * up e / down e) (down e) (floor_exact false m e h)) (refl, refl)

minus : (m : ℕ) (e : ℤ) (c : ℕ) → cut true (m * up e) (down e) ≡ c → neg (round binary32 false c 1) ≡ floor_of (fin true m e)
minus m e c h = sym (round_neg binary32 false c 1) ∙ ap (λ (z : ℕ). round binary32 true z 1) (sym h) ∙ sym (floor_is true m e)

more : (n d : ℕ) → 0 < d → n / d * d < n → cut true n d ≡ n / d + 1
more n d D h = div-eq_of_lt-le d (upto n d (n / d * d) D h (add-mul (n / d) 1 d)) (under n d (n / d * d) D (lt-div-mul-add D) (add-mul (n / d + 1) 1 d ∙ ap (λ (z : ℕ). z + 1 * d) (add-mul (n / d) 1 d)))
  where
    upto : (n d q : ℕ) → 0 < d → q < n → {k : ℕ} → k ≡ q + 1 * d → k ≤ n + (d - 1)
    upto n d q D h e = omega arith

    under : (n d q : ℕ) → 0 < d → n < q + d → {k : ℕ} → k ≡ q + 1 * d + 1 * d → n + (d - 1) < k
    under n d q D h e = omega arith

same : (n d : ℕ) → 0 < d → n ≤ n / d * d → cut true n d ≡ n / d
same n d D h = cut-whole true n d (n / d) D (le_antisymm h (div-mul-le_self n d))

next_floor : (m : ℕ) (e : ℤ) → T (fits binary32 (fin false m e)) → ltb (m * up e / down e * down e) (m * up e) ≡ true
    → neg (add binary32 (floor_of (fin false m e)) (fin false 1 (pos 0))) ≡ floor_of (fin true m e)
unfolding sum
next_floor m e h t =
    ap neg (add_value binary32 (floor_of (fin false m e)) (fin false 1 (pos 0)) false (m * up e / down e) false 1 1 (zero-lt-suc 0) (floor_exact false m e h) (refl, refl))
    ∙ minus m e (m * up e / down e + 1) (more (m * up e) (down e) (down_pos e) (ltb-true _ _ t))

same_floor : (m : ℕ) (e : ℤ) → ltb (m * up e / down e * down e) (m * up e) ≡ false → neg (floor_of (fin false m e)) ≡ floor_of (fin true m e)
same_floor m e t = ap neg (floor_is false m e) ∙ minus m e (m * up e / down e) (same (m * up e) (down e) (down_pos e) (ltb-false _ _ t))

-- what the floor of a value below zero and above -2 ^ 23 is, by the test of the floor w of its size
abbrev Below : Float → Float → Type 0
Below x w = (lt w (neg x) ≡ true → neg (add binary32 w (fin false 1 (pos 0))) ≡ floor_of x) × (lt w (neg x) ≡ false → neg w ≡ floor_of x)

below_own : (x : Float) → T (fits binary32 x) → lt x (fin false 0 (pos 0)) ≡ true → lt (fin true 1 (pos 23)) x ≡ true → Below x (floor_of (neg x))
unfolding lt neg fits
below_own nan f h k = absurd (true≢false (sym h))
below_own (inf true) f h k = absurd (true≢false (sym k))
below_own (inf false) f h k = absurd (true≢false (sym h))
below_own (fin false m e) f h k = absurd (none_below (m * up e * 1) (down e) (ltb-true _ _ h))
below_own (fin true m e) f h k = (λ t. next_floor m e f (sym (below_size m e f) ∙ t), λ t. same_floor m e (sym (below_size m e f) ∙ t))

pub below_floor : (x w : Float) → T (fits binary32 x) → lt x (fin false 0 (pos 0)) ≡ true → lt (fin true 1 (pos 23)) x ≡ true → w ≡ floor_of (neg x) → Below x w
below_floor x w f h k e = subst (Below x) (sym e) (below_own x f h k)

-- ---- what `binary32::whole_part` works out
pub small_floor : (x : Float) → T (fits binary32 x) → T (lt (fin false 0 (pos 0)) x) → T (lt x (fin false 1 (pos 23))) → floored binary32 x ≡ floor_of x
unfolding lt
small_floor nan f h k = absurd h
small_floor (inf true) f h k = absurd h
small_floor (inf false) f h k = absurd k
small_floor (fin true m e) f h k = absurd h
small_floor (fin false m e) f h k =
    let v = on_grid binary32 (fin false m e) tt f in
    let n = v.count in
    let p : Units binary32 (fin false m e) n = record { sign = false; is = v.is; null = λ t. absurd t } in
    let small : n < 2 ^ 23 * 2 ^ 149 = ltb→lt n (2 ^ 23 * 2 ^ 149) (subst T (lt_units p (power_units binary32 23)) k) in
    whole_is p small ∙ ap (λ (z : ℕ). round binary32 false z 1) (div_same n (2 ^ 149) (m * up e) (down e) (pow_pos 149) (down_pos e) (sym v.is.1)) ∙ sym (floor_is false m e)

-- ---- in units: the floor of n units, which are not below zero, is the ones of n, with the sign that x has
pub floor_sign : (x : Float) → T (fits binary32 x) → sign_of (floor_of x) ≡ sign_of x
floor_sign nan t = unfold floor_of in refl
floor_sign (inf s) t = unfold floor_of in refl
floor_sign (fin s m e) t = value_sign (floor_of (fin s m e)) s (cut s (m * up e) (down e)) 1 (floor_exact s m e t)

cut_units : (s : Bool) (a d n : ℕ) → 0 < d → a * 2 ^ 149 ≡ n * d → (T s → n ≡ 0) → cut s a d ≡ n / 2 ^ 149
cut_units false a d n D v z = div_same a d n (2 ^ 149) D (pow_pos 149) v
cut_units true a d n D v z =
    let none : a ≡ 0 = eq_of_mul-eq-mul_right (2 ^ 149) (pow_pos 149) a 0 (v ∙ ap (λ (k : ℕ). k * d) (z tt) ∙ zero-mul d ∙ sym (zero-mul (2 ^ 149))) in
    cut-whole true a d 0 D (none ∙ sym (zero-mul d)) ∙ sym (ap (λ (k : ℕ). k / 2 ^ 149) (z tt) ∙ zero-div (2 ^ 149))

pub floor_units : (x : Float) (n : ℕ) → T (fits binary32 x) → Units binary32 x n → Units binary32 (floor_of x) (n / 2 ^ 149 * 2 ^ 149)
floor_units nan n t p = absurd p.is
floor_units (inf s) n t p = absurd p.is
floor_units (fin s m e) n t p =
    let y = floor_of (fin s m e) in
    let w = n / 2 ^ 149 in
    let none : T s → n ≡ 0 = λ (h : T s). p.null (subst T p.is.0 h) in
    let v : HasValue y s w 1 = subst (λ (k : ℕ). HasValue y s k 1) (cut_units s (m * up e) (down e) n (down_pos e) p.is.1 none) (floor_exact s m e t) in
    record {
      sign = s;
      is = value_same y s w 1 (w * 2 ^ 149) (2 ^ 149) (pow_pos 0) (sym (mul-one (w * 2 ^ 149))) v;
      null = λ h. ap (λ (k : ℕ). k / 2 ^ 149 * 2 ^ 149) (none h) ∙ ap (λ (k : ℕ). k * 2 ^ 149) (zero-div (2 ^ 149)) ∙ zero-mul (2 ^ 149);
    }
