-- A value's size, by the tests with which `binary32::abs` tells its sign. Assumes nothing.
use Rattle.std.proofs.Common.{◌≡◌, ℕ, zero, suc, ◌+◌, ◌*◌, ◌<◌, ◌≤◌, Bool, true, false, ◌&&◌, ◌||◌, T, eqb, pos, sym, refl, true≢false, zero-lt-suc, mul-pos, zero-mul, arith, eqb→eq, ltb-false, ltb-true}
use mathlib.Core.Bool.{beq}
use lib.Ieee.{Format, Float, nan, inf, fin, binary32, up, down, lt, eq, neg, fits}
use lib.Ieee.Fits.{and_l, up_pos}
use lib.Ieee.Back.{whole_unique}
use Rattle.binary32.specs.Leaves.{abs_of, sign_of}
use Rattle.binary32.proofs.Truth.{yes}

abbrev zero32 : Float
zero32 = fin false 0 (pos 0)

none_below : (a d : ℕ) → a < 0 * d → ⊥
none_below a d h = omega arith

pub abs_below : (x : Float) → lt x zero32 ≡ true → neg x ≡ abs_of x
unfolding lt neg
abs_below nan h = absurd (true≢false (sym h))
abs_below (inf true) h = refl
abs_below (inf false) h = absurd (true≢false (sym h))
abs_below (fin true m e) h = refl
abs_below (fin false m e) h = absurd (none_below (m * up e * 1) (down e) (ltb-true _ _ h))

not-zero : (a b : ℕ) (s : Bool) → 0 < a → (eqb a b && (s || eqb a 0)) ≡ true → b ≡ 0 → ⊥
not-zero a b s p h z = let e : a ≡ b = eqb→eq a b (and_l (eqb a b) (s || eqb a 0) (yes h)) in omega arith

pub abs_zero : (x : Float) → T (fits binary32 x) → eq x zero32 ≡ true → zero32 ≡ abs_of x
unfolding eq fits
abs_zero nan f h = absurd (true≢false (sym h))
abs_zero (inf s) f h = absurd (true≢false (sym h))
abs_zero (fin s zero e) f h = whole_unique binary32 zero32 (fin false 0 e) false 0 tt f (refl, refl) (refl, simp zero-mul)
abs_zero (fin s (suc m) e) f h = absurd (not-zero (suc m * up e * 1) (0 * 1 * down e) (beq s false) (mul-pos (mul-pos (zero-lt-suc m) (up_pos e)) (zero-lt-suc 0)) h (zero-mul (down e)))

rest : (a b : ℕ) → a + b ≤ 0 → (eqb a b && (false || eqb a 0)) ≡ false → ⊥
rest zero zero p h = true≢false h
rest zero (suc b) p h = omega arith
rest (suc a) b p h = omega arith

pub abs_above : (x : Float) → lt x zero32 ≡ false → eq x zero32 ≡ false → x ≡ abs_of x
unfolding lt eq
abs_above nan h k = refl
abs_above (inf true) h k = absurd (true≢false h)
abs_above (inf false) h k = refl
abs_above (fin true m e) h k = absurd (rest (m * up e * 1) (0 * 1 * down e) (ltb-false _ _ h) k)
abs_above (fin false m e) h k = refl

pub size_sign : (x : Float) → sign_of (abs_of x) ≡ false
size_sign nan = refl
size_sign (inf s) = refl
size_sign (fin s m e) = refl

pub size_fits : (f : Format) (x : Float) → T (fits f x) → T (fits f (abs_of x))
unfolding fits
size_fits f nan t = tt
size_fits f (inf s) t = tt
size_fits f (fin s zero e) t = t
size_fits f (fin s (suc m) e) t = t
