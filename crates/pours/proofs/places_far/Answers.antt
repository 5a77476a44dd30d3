-- `places_far` meets its contract. The invariant: so many samples stand. The measure is how many are left. Assumes nothing.
use mathlib.Core.Path.{refl, sym, ◌∙◌}
use Prim.Native.Nat.{ℕ, ◌+◌, ◌<◌, zero-le}
use native.Mathlib.Omega.{arith}
use mathlib.Core.Bool.{true≢false}
use lib.Ieee.{le, of_bits}
use lib.Ieee.Bits.{is_true}
use lib.Ieee.Fits.{and_l, and_r}
use lib.ListN.{length-set}
use Rattle.binary32.specs.Leaves.{zero32}
use Rattle.binary32.proofs.Truth.{yes}
use Rattle.clip.specs.Positions.{travel_at}
use Rattle.pours.proofs.Placing.{told_next}
use Rattle.pours.proofs.places_far.Goals as goal

pub loop-k-init : goal.loop-k-init
loop-k-init c = (zero-le, refl, λ k h. absurd (omega (arith, h)))

pub returns-then-not-y-p : goal.returns-then-not-y-p
returns-then-not-y-p c = (c.loop-k.invariant.1, λ told. absurd (true≢false (sym told)))

pub loop-k-preserved : goal.loop-k-preserved
unfolding of_bits
loop-k-preserved c =
    let a = c.args in
    let l = c.loop-k in
    let place = c.wrapped-y in
    let spot = c.spot_at-p in
    let below : l.k < a.n = c.loop-k-test.true in
    let told = yes c.if-not-y-p.false in
    let S = spot.ensures (is_true _ (and_r (le zero32 place.result) _ told)) in (
      omega (arith, below),
      length-set l.values l.k spot.result.index ∙ l.invariant.1,
      told_next a.c (λ (j : ℕ). travel_at a.c (a.time + j)) l.k l.values _ place.result spot.result.index (omega (arith, below, c.requires.3, l.invariant.1)) c.travel_at.ensures (place.ensures (and_l (le zero32 place.result) _ told)) S.1
          l.invariant.2,
    )

pub returns : goal.returns
returns c =
    let l = c.loop-k in
    (l.invariant.1, λ told k h. l.invariant.2 k (omega (arith, h, c.loop-k-test.false)))
