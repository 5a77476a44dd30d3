-- With a good length, loop and ping-pong bring every x, NaN and infinities included, to a place from 0 to below the length and at most length - 1.
-- The rules themselves give NaN or a value that is not below zero, and the smaller of that and length - 1 does the rest. Assumes nothing.
use mathlib.Core.Path.{◌≡◌, sym, ◌∙◌, subst}
use mathlib.Core.Logic.{◌⊎◌, inl, inr}
use Prim.Native.Nat.{ℕ, ◌-◌, ◌%◌, ◌^◌, ◌≤◌, ◌<◌, zero-le}
use native.Mathlib.Nat.{le_refl, lt_of_lt_of_le, le_of_lt, mod-lt}
use native.Mathlib.Omega.{arith}
use mathlib.Core.Bool.{Bool, true, false, not}
use lib.Dec.{T, T_not}
use lib.Pow.{pow_pos}
use lib.Ieee.{Float, binary32, add, sub, mul, rem, lt, le, fits, is_nan}
use lib.Ieee.Fits.{cond-fits, add-fits, sub-fits, rem-fits}
use lib.Ieee.Exact.{HasValue}
use Rattle.binary32.specs.Leaves.{min_of, max_of, abs_of, sign_of, zero32, one32}
use Rattle.binary32.proofs.Truth.{yes_or_no, cond_split}
use Rattle.binary32.proofs.Values.{finite_not_nan, value_sign}
use Rattle.binary32.proofs.Units.{units_finite, units_above_value, on_grid, zero_units, zero-fits}
use Rattle.binary32.proofs.Sums.{add_back_units}
use Rattle.binary32.proofs.Between.{lt_not_nan, total, le_lt_trans}
use Rattle.binary32.proofs.Remainders.{rem_exact, rem_operands, rem_sign}
use Rattle.clip.specs.Positions.{two32, looped_of, round_trip_of, mirrored_of, bounced_of, wrapped_of, placed_of}
use Rattle.clip.specs.Refusals.{good_length}
use Rattle.clip.specs.Bounds.{Inside}
use Rattle.clip.specs.declared.Mode.{Mode}
use Rattle.clip.specs.declared.Mode.TheVariants.{Loop, PingPong}
use Rattle.binary32.proofs.Extremes.{smaller_of, larger_of}
use Rattle.binary32.proofs.Sizes.{size_sign, size_fits}
use Rattle.binary32.proofs.Signs.{unsigned, signed}
use Rattle.binary32.proofs.Nans.{nan_sum}
use Rattle.clip.proofs.Lengths.{units_le, units_lt, length_units, last_units}

-- ---- the rules give NaN, or a value that is not below zero
abbrev Fair : Float → Type 0
Fair x = T (is_nan x) ⊎ T (le zero32 x)

larger_low : (x : Float) → T (le zero32 (max_of x zero32))
unfolding is_nan
larger_low x =
    larger_of (λ (z : Float). T (le zero32 z)) x zero32 (units_le (zero_units binary32 false) (zero_units binary32 false) zero-le)
    (λ n t. total zero32 x tt n t)

bounced_low : (x l : Float) → T (le zero32 (bounced_of x l))
unfolding bounced_of round_trip_of
bounced_low x l =
    let y = rem binary32 (abs_of x) (mul binary32 two32 l) in
    cond_split (λ (z : Float). T (le zero32 z)) (lt y l) y (max_of (mirrored_of y l) zero32)
    (λ t. let n = (lt_not_nan y l t).0 in unsigned y n (rem_sign binary32 (abs_of x) (mul binary32 two32 l) n ∙ size_sign x))
    (λ t. larger_low (mirrored_of y l))

module _ (x l : Float) (u : T (fits binary32 x)) (t : T (fits binary32 l)) (h : T (good_length l)) where
  -- a remainder below zero is smaller in size than the length
  raised_low : T (not (is_nan (rem binary32 x l))) → T (not (le zero32 (rem binary32 x l))) → T (le zero32 (add binary32 (rem binary32 x l) l))
  raised_low n k =
      let y = rem binary32 x l in
      let a = on_grid binary32 x (rem_operands binary32 x l n).0 u in
      let w = length_units l t h in
      let W : 0 < w.count = lt_of_lt_of_le (pow_pos 149) w.from in
      let size : HasValue l false w.count (2 ^ 149) = units_above_value w.is W in
      let rest = a.count % w.count in
      let v : HasValue y (sign_of x) rest (2 ^ 149) = rem_exact binary32 x l (sign_of x) a.count false w.count u t W a.is size in
      let e : sign_of x ≡ true = sym (value_sign y (sign_of x) rest (2 ^ 149) v) ∙ signed y n k in
      units_le (zero_units binary32 false)
      (add_back_units binary32 y l rest w.count t (subst (λ (s : Bool). HasValue y s rest (2 ^ 149)) e v) size (le_of_lt (mod-lt a.count W))) zero-le

  looped_fair : Fair (looped_of x l)
  unfolding looped_of
  looped_fair =
      let y = rem binary32 x l in
      cond_split Fair (le zero32 y) y (add binary32 y l) (λ k. inr k)
      (λ k. elim (yes_or_no (is_nan y)) [ inl n ↦ inl (nan_sum binary32 y l n) | inr n ↦ inr (raised_low n k) ])

  wrapped_fair : (m : Mode) → Fair (wrapped_of m x l)
  unfolding wrapped_of
  wrapped_fair Loop = looped_fair
  wrapped_fair PingPong = inr (bounced_low x l)

-- ---- the smaller of a fair value and length - 1
module _ (l : Float) (t : T (fits binary32 l)) (h : T (good_length l)) where
  last_inside : Inside (sub binary32 l one32) l
  last_inside =
      let w = length_units l t h in
      let u = last_units l t h in
      record { low = units_le (zero_units binary32 false) u zero-le; top = units_le u u (le_refl _); high = units_lt u w.is (less w.count (2 ^ 149) (pow_pos 149) w.from) }
    where
      less : (n o : ℕ) → 0 < o → o ≤ n → n - o < n
      less n o p q = omega arith

  smaller_inside : (x : Float) → Fair x → Inside (min_of x (sub binary32 l one32)) l
  smaller_inside x fair = smaller_of (λ (z : Float). Inside z l) x (sub binary32 l one32) last_inside kept
    where
      kept : T (not (is_nan x)) → T (not (lt (sub binary32 l one32) x)) → Inside x l
      kept n k =
          let b = sub binary32 l one32 in
          let top = total x b n (finite_not_nan b (units_finite (last_units l t h))) k in
          record {
            low = elim fair [ inl m ↦ absurd (T_not (is_nan x) n m) | inr m ↦ m ];
            top = top;
            high = le_lt_trans x b l top last_inside.high;
          }

pub placed_inside : (m : Mode) (x l : Float) → T (fits binary32 x) → T (fits binary32 l) → T (good_length l) → Inside (placed_of m x l) l
unfolding placed_of
placed_inside m x l u t h = smaller_inside l t h (wrapped_of m x l) (wrapped_fair x l u t h m)

-- ---- a place is one of binary32
pub mirrored_fits : (y l : Float) → T (fits binary32 (mirrored_of y l))
unfolding mirrored_of
mirrored_fits y l = sub-fits binary32 (sub binary32 (mul binary32 two32 l) y) one32

wrapped_fits : (m : Mode) (x l : Float) → T (fits binary32 x) → T (fits binary32 (wrapped_of m x l))
unfolding wrapped_of looped_of bounced_of round_trip_of
wrapped_fits Loop x l u =
    let y = rem binary32 x l in
    cond-fits binary32 (le zero32 y) y (add binary32 y l) (rem-fits binary32 x l u) (add-fits binary32 y l)
wrapped_fits PingPong x l u =
    let y = rem binary32 (abs_of x) (mul binary32 two32 l) in
    let z = mirrored_of y l in
    cond-fits binary32 (lt y l) y (max_of z zero32) (rem-fits binary32 (abs_of x) (mul binary32 two32 l) (size_fits binary32 x u))
    (larger_of (λ (w : Float). T (fits binary32 w)) z zero32 (zero-fits binary32 false) (λ n t. mirrored_fits y l))

pub placed_fits : (m : Mode) (x l : Float) → T (fits binary32 x) → T (fits binary32 (placed_of m x l))
unfolding placed_of
placed_fits m x l u =
    smaller_of (λ (w : Float). T (fits binary32 w)) (wrapped_of m x l) (sub binary32 l one32) (sub-fits binary32 l one32) (λ n t. wrapped_fits m x l u)
