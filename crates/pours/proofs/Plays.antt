-- How far a voice has played that plays on: the last sum is the largest. Assumes nothing.
use mathlib.Core.Path.{◌≡◌, refl, sym, ap, ◌∙◌, subst}
use mathlib.Core.Logic.{inl, inr}
use Prim.Native.Nat.{ℕ, zero, suc, ◌+◌, ◌^◌, ◌<◌}
use native.Mathlib.Nat.{mul-le-mul_right}
use native.Mathlib.Omega.{arith}
use mathlib.Core.Bool.{Bool, true, false, true≢false}
use lib.Dec.{T, ltb, ltb→lt}
use lib.Pow.{pow_pos}
use lib.Ieee.{Float, nan, inf, fin, binary32, low, round, add, lt, le, eq, fits}
use lib.Ieee.Bits.{is_true}
use lib.Ieee.Fits.{add-fits}
use lib.Ieee.Order.{round_mono}
use lib.Ieee.Scale.{finite}
use borrow.Author.Tests.{not-true, ltb-true, ltb-false}
use Rattle.binary32.specs.Leaves.{zero32, abs_of}
use Rattle.binary32.proofs.Truth.{yes_or_no}
use Rattle.binary32.proofs.Values.{add_value}
use Rattle.binary32.proofs.Units.{lt_units, units_above_value, zero_units}
use Rattle.binary32.proofs.Rounding.{round_held}
use Rattle.binary32.proofs.Sums.{sum_like}
use Rattle.binary32.proofs.Between.{lt→le, lt_le_trans, le_le_trans, From, at_least}
use Rattle.pours.specs.Steady.{played_on, PlaysBelow}
use Rattle.pours.proofs.Placing.{positive}

-- a sum with what is above 0
sums : (x y : Float) → T (fits binary32 x) → T (fits binary32 y) → T (lt zero32 x) → T (lt zero32 y) → T (finite x) → T (finite y) → T (le x (add binary32 x y))
sums x y X Y P Q fx fy =
    let p : From binary32 x 0 = at_least X fx (zero_units binary32 false) (lt→le zero32 x P) in
    let q : From binary32 y 0 = at_least Y fy (zero_units binary32 false) (lt→le zero32 y Q) in
    let A : 0 < p.count = ltb→lt 0 p.count (subst T (lt_units (zero_units binary32 false) p.is) P) in
    let B : 0 < q.count = ltb→lt 0 q.count (subst T (lt_units (zero_units binary32 false) q.is) Q) in
    let c : ℕ = 2 ^ low binary32 in
    let C : 0 < c = pow_pos (low binary32) in
    let sum : add binary32 x y ≡ round binary32 false (p.count + q.count) c =
    add_value binary32 x y false p.count false q.count c C (units_above_value p.is A) (units_above_value q.is B) ∙ sum_like binary32 false p.count q.count c in
    subst (λ (z : Float). T (le x z)) (sym sum)
    (subst (λ (z : Float). T (le z (round binary32 false (p.count + q.count) c))) (round_held binary32 x false p.count c C X (units_above_value p.is A))
    (round_mono binary32 p.count c (p.count + q.count) c C C (mul-le-mul_right c (omega arith))))

grows : (x y : Float) → T (fits binary32 x) → T (fits binary32 y) → T (lt zero32 x) → T (lt zero32 y) → T (le x (add binary32 x y))
unfolding add le lt eq
grows nan y X Y P Q = absurd P
grows (inf true) y X Y P Q = absurd P
grows (inf false) nan X Y P Q = absurd Q
grows (inf false) (inf true) X Y P Q = absurd Q
grows (inf false) (inf false) X Y P Q = tt
grows (inf false) (fin t n d) X Y P Q = tt
grows (fin s m e) nan X Y P Q = absurd Q
grows (fin s m e) (inf true) X Y P Q = absurd Q
grows (fin s m e) (inf false) X Y P Q = tt
grows (fin s m e) (fin t n d) X Y P Q = sums (fin s m e) (fin t n d) X Y P Q tt tt

module _ (played by : Float) (X : T (fits binary32 played)) (Y : T (fits binary32 by)) (P : T (lt zero32 played)) (Q : T (lt zero32 by)) where
  fit : (k : ℕ) → T (fits binary32 (played_on by played k))
  unfolding played_on
  fit zero = X
  fit (suc k) = add-fits binary32 (played_on by played k) by

  above : (k : ℕ) → T (lt zero32 (played_on by played k))
  unfolding played_on
  above zero = P
  above (suc k) = lt_le_trans zero32 (played_on by played k) (played_on by played (suc k)) (above k) (grows (played_on by played k) by (fit k) Y (above k) Q)

  -- what the next sum doesn't reach, none before it does
  step : (whole : Float) (n : ℕ) → le whole (played_on by played (suc n)) ≡ false → le whole (played_on by played n) ≡ false
  unfolding played_on
  step whole n clear = elim (yes_or_no (le whole (played_on by played n))) [
    | inl l ↦ absurd (true≢false (sym (is_true _ (le_le_trans whole (played_on by played n) (played_on by played (suc n)) l (grows (played_on by played n) by (fit n) Y (above n) Q))) ∙ clear))
    | inr l ↦ not-true _ (is_true _ l)
  ]

  pub plays_on : (whole : Float) (n : ℕ) → le whole (played_on by played n) ≡ false → PlaysBelow played by whole n
  plays_on whole zero clear k below = absurd (omega (arith, below))
  plays_on whole (suc n) clear k below = go (plays_on whole n (step whole n clear)) (ltb k n) refl
    where
      go : PlaysBelow played by whole n → (b : Bool) → ltb k n ≡ b → le whole (abs_of (played_on by played (suc k))) ≡ false
      go before true e = before k (ltb-true k n e)
      go before false e = let at : k ≡ n = omega (arith, below, ltb-false k n e) in rw at (ap (le whole) (positive (played_on by played (suc n)) (above (suc n))) ∙ clear)
