-- `places_from` meets its contract. The invariant: so many samples stand, if each was told. The measure is how many are left. Assumes nothing.
use mathlib.Core.Path.{refl, ◌∙◌}
use Prim.Native.Nat.{ℕ, ◌+◌, ◌<◌, zero-le}
use native.Mathlib.Omega.{arith}
use lib.Ieee.{le, of_bits}
use lib.Ieee.Bits.{is_true}
use lib.Ieee.Fits.{and_l, and_r}
use lib.ListN.{length-set}
use Rattle.binary32.specs.Leaves.{zero32}
use Rattle.binary32.proofs.Truth.{yes}
use Rattle.pours.specs.Steady.{travel_by}
use Rattle.pours.proofs.Placing.{told_next}
use Rattle.pours.proofs.places_from.Goals as goal

pub loop-k-init : goal.loop-k-init
loop-k-init c = (zero-le, refl, λ told k h. absurd (omega (arith, h)))

pub loop-k-preserved : goal.loop-k-preserved
unfolding of_bits
loop-k-preserved c =
    let a = c.args in
    let l = c.loop-k in
    let place = c.wrapped-y in
    let spot = c.spot_at-p in
    let below : l.k < a.n = c.loop-k-test.true in (
      omega (arith, below),
      length-set l.values l.k spot.result.index ∙ l.invariant.1,
      λ told.
          let h = and_r l.told _ (yes told) in
          let S = spot.ensures (is_true _ (and_r (le zero32 place.result) _ h)) in
          told_next a.c (λ (j : ℕ). travel_by a.c.shift a.c.speed (a.from + j)) l.k l.values _ place.result spot.result.index (omega (arith, below, c.requires.1, l.invariant.1)) c.travel.ensures (place.ensures (and_l (le zero32 place.result) _ h)) S.1
          (l.invariant.2 (is_true l.told (and_l l.told _ (yes told)))),
    )

pub returns : goal.returns
returns c =
    let l = c.loop-k in
    (l.invariant.1, λ told k h. l.invariant.2 told k (omega (arith, h, c.loop-k-test.false)))
