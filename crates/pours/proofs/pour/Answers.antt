-- `pour` meets its contract. The invariant: so many terms are added. The measure is how many are left. Assumes nothing.
use mathlib.Core.Path.{◌≡◌, sym, ap, ◌∙◌, subst}
use Prim.Native.Nat.{ℕ, ◌+◌, ◌-◌, ◌<◌}
use native.Mathlib.Nat.{add_assoc, add-sub_cancel_left, add-zero}
use native.Mathlib.Omega.{arith}
use mathlib.Core.List.{List}
use lib.Ieee.{Float, nan, binary32, add, mul}
use lib.ListN.{length, get_or, set}
use Rattle.voice.specs.Voices.{recorded_value_of}
use Rattle.pours.specs.Eases.{term_at, Added}
use Rattle.pours.proofs.Added.{none, one}
use Rattle.pours.proofs.pour.Goals as goal

-- one term more
module _ («data» : List ℕ) (from : ℕ) (level : Float) (at : ℕ) where
  abbrev term : ℕ → Float
  term j = term_at «data» level (from + (j - at))

  more : (sums₀ sums : List Float) (k : ℕ) (x : Float) → x ≡ recorded_value_of «data» (from + k) → at + k < length sums₀ → Added term at (at + k) sums₀ sums
      → Added term at (at + (k + 1)) sums₀ (set sums (at + k) (add binary32 (get_or sums (at + k) nan) (mul binary32 x level)))
  more sums₀ sums k x is below a =
      let w : Float = add binary32 (get_or sums (at + k) nan) (mul binary32 x level) in
      subst (λ (e : ℕ). Added term at e sums₀ (set sums (at + k) w)) (add_assoc at k 1)
      (one a w (omega arith) below (ap (λ (y : Float). add binary32 (get_or sums (at + k) nan) (mul binary32 y level)) (is ∙ ap (λ (j : ℕ). recorded_value_of «data» (from + j)) (sym (add-sub_cancel_left at k)))))

pub loop-k-init : goal.loop-k-init
loop-k-init c =
    let a = c.args in
    (omega arith, subst (λ (e : ℕ). Added (term a.«data».now a.from a.level a.at) a.at e a.sums.now a.sums.now) (sym (add-zero a.at)) (none _ a.at a.sums.now))

pub loop-k-preserved : goal.loop-k-preserved
loop-k-preserved c =
    let a = c.args in
    let l = c.loop-k in
    let below : a.at + l.k < length a.sums.now = omega (arith, l.invariant.0, c.requires.1, c.loop-k-test.true) in
    (omega (arith, c.loop-k-test.true), more a.«data».now a.from a.level a.at a.sums.now l.sums l.k c.from_bits.result c.from_bits.ensures below l.invariant.1)

pub returns : goal.returns
returns c =
    let a = c.args in
    let l = c.loop-k in
    subst (λ (k : ℕ). Added (term a.«data».now a.from a.level a.at) a.at (a.at + k) a.sums.now l.sums) (omega (arith, l.invariant.0, c.loop-k-test.false)) l.invariant.1
