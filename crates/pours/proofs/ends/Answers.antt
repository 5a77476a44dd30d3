-- `ends` meets its contract. The invariant: the sum is that of so many, and none reached the whole length, unless it says so. The measure is how many are left. Assumes nothing.
use mathlib.Core.Path.{refl}
use Prim.Native.Nat.{zero-le}
use native.Mathlib.Omega.{arith}
use Rattle.pours.specs.Steady.{played_on}
use Rattle.pours.proofs.Filling.{played_next, below_more}
use Rattle.pours.proofs.ends.Goals as goal

pub loop-k-init : goal.loop-k-init
unfolding played_on
loop-k-init c = (zero-le, refl, λ clear k h. absurd (omega (arith, h)))

pub loop-k-preserved : goal.loop-k-preserved
loop-k-preserved c =
    let a = c.args in
    let l = c.loop-k in
    (omega (arith, c.loop-k-test.true), played_next a.by a.played l.k l.sum l.invariant.1, below_more a.played a.by a.whole l.k l.sum _ l.over l.invariant.1 c.abs.ensures l.invariant.2)

pub returns : goal.returns
returns c clear k h = c.loop-k.invariant.2 clear k (omega (arith, h, c.loop-k-test.false))
