-- `fetch` meets its contract. The invariant: so many are fetched, and the rest stands. The measure is how many are left. Assumes nothing.
use mathlib.Core.Path.{refl, subst}
use Prim.Native.Nat.{ℕ, ◌<◌, zero-le}
use native.Mathlib.Omega.{arith}
use lib.ListN.{length}
use Rattle.pours.specs.Steady.{Fetches}
use Rattle.pours.proofs.Filling.{nothing, one_more, left}
use Rattle.pours.proofs.fetch.Goals as goal

pub loop-k-init : goal.loop-k-init
loop-k-init c =
    let a = c.args in
    (zero-le, nothing a.«data».now a.played a.by a.values.now, λ j h. refl)

pub loop-k-preserved : goal.loop-k-preserved
loop-k-preserved c =
    let a = c.args in
    let l = c.loop-k in
    let below : l.k < a.n = c.loop-k-test.true in
    let room : l.k < length a.values.now = omega (arith, below, c.requires) in (
      omega (arith, below),
      one_more a.«data».now a.played a.by a.values.now l.k l.values _ l.invariant.1 room l.invariant.2 _ _ refl c.pattern_at.ensures,
      left a.«data».now a.played a.by a.values.now l.k l.values _ l.invariant.1 room l.invariant.2 _,
    )

pub returns : goal.returns
returns c =
    let a = c.args in
    let l = c.loop-k in
    subst (λ (k : ℕ). Fetches a.«data».now a.played a.by k a.values.now l.values (record { index = l.index; played = l.sum })) (omega (arith, l.invariant.0, c.loop-k-test.false)) l.invariant.1
