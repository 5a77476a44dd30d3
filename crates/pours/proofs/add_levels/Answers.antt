-- `add_levels` meets its contract. The invariant: so many terms are added. The measure is how many are left. Assumes nothing.
use mathlib.Core.Path.{ap₂, subst}
use Prim.Native.Nat.{ℕ, ◌<◌, zero-le}
use native.Mathlib.Omega.{arith}
use lib.Ieee.{Float, nan, binary32, add, mul}
use lib.ListN.{get_or}
use Rattle.pours.specs.Eases.{Added}
use Rattle.pours.specs.Steady.{leveled}
use Rattle.pours.proofs.Added.{none, one}
use Rattle.pours.proofs.add_levels.Goals as goal

pub loop-k-init : goal.loop-k-init
loop-k-init c = (zero-le, none _ 0 c.args.sums.now)

pub loop-k-preserved : goal.loop-k-preserved
loop-k-preserved c =
    let l = c.loop-k in
    let below : l.k < c.args.n = c.loop-k-test.true in (
      omega (arith, below),
      one l.invariant.1 _ zero-le (omega (arith, below, c.requires.3)) (ap₂ (λ (x y : Float). add binary32 (get_or l.sums l.k nan) (mul binary32 x y)) c.from_bits.ensures c.level.ensures),
    )

pub returns : goal.returns
returns c =
    let a = c.args in
    let l = c.loop-k in
    subst (λ (k : ℕ). Added (leveled a.values.now a.volume a.time) 0 k a.sums.now l.sums) (omega (arith, l.invariant.0, c.loop-k-test.false)) l.invariant.1
