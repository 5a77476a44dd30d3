-- A good volume stays good as the clock moves on, after a step, and after a change within the limits. Assumes nothing.
use mathlib.Core.Bool.{Bool, true, false, ◌&&◌, cond}
use Prim.Native.Nat.{ℕ, ◌+◌, ◌-◌, ◌^◌, ◌≤◌, ◌<◌, zero, suc}
use native.Mathlib.Nat.{le_trans}
use native.Mathlib.Omega.{arith}
use lib.Dec.{T, leb, ltb, leb→le, le→leb, ltb→lt, lt→ltb}
use lib.Ieee.{Float}
use lib.Ieee.Fits.{and_i, and_l, and_r}
use Rattle.volume.specs.declared.Volume.{Volume}
use Rattle.volume.specs.declared.Volume.TheVariants.{Static, Linear}
use Rattle.volume.specs.Levels.{toward_of, stepped_of, good_ramp, good_volume}
use Rattle.volume.proofs.Changes.{toward_at_once, toward_ramp}

-- what a good ramp from a to b has at a time
pub record GoodRamp (a b now : ℕ) : Type 0 where
  pub some : a < b
  pub short : b - a ≤ 2 ^ 24
  pub begun : a ≤ now

pub ramp_facts : (a b now : ℕ) → T (good_ramp a b now) → GoodRamp a b now
unfolding good_ramp
ramp_facts a b now h =
    let p : Bool = ltb a b in
    let q : Bool = leb (b - a) (2 ^ 24) in
    let r : Bool = leb a now in
    record {
      some = ltb→lt a b (and_l p q (and_l (p && q) r h));
      short = leb→le (b - a) (2 ^ 24) (and_r p q (and_l (p && q) r h));
      begun = leb→le a now (and_r (p && q) r h);
    }

pub ramp_good : (a b now : ℕ) → GoodRamp a b now → T (good_ramp a b now)
unfolding good_ramp
ramp_good a b now g =
    let p : Bool = ltb a b in
    let q : Bool = leb (b - a) (2 ^ 24) in
    and_i (p && q) (leb a now) (and_i p q (lt→ltb a b g.some) (le→leb (b - a) (2 ^ 24) g.short)) (le→leb a now g.begun)

pub good_static : (x : Float) (now : ℕ) → T (good_volume now (Static x))
unfolding good_volume
good_static x now = tt

-- the clock moves on
pub good_later : (v : Volume) (now then : ℕ) → now ≤ then → T (good_volume now v) → T (good_volume then v)
unfolding good_volume
good_later (Static x) now then h g = tt
good_later (Linear a b x y) now then h g =
    let k = ramp_facts a b now g in
    ramp_good a b then (record { some = k.some; short = k.short; begun = le_trans k.begun h })

-- a step at any time
pub good_stepped : (v : Volume) (now t : ℕ) → T (good_volume now v) → T (good_volume now (stepped_of v t))
unfolding good_volume stepped_of
good_stepped (Static x) now t g = tt
good_stepped (Linear a b x y) now t g = go (leb b t)
  where
    go : (s : Bool) → T (good_volume now (cond s (Static y) (Linear a b x y)))
    go true = tt
    go false = g

-- a change within the limits
pub good_toward : (v : Volume) (now duration : ℕ) (target : Float) → now ≤ 2 ^ 48 → duration ≤ 2 ^ 24 → T (good_volume now (toward_of v now duration target))
unfolding good_volume
good_toward v now zero target h k = rw (toward_at_once v now target) tt
good_toward v now (suc d) target h k =
    rw (toward_ramp v now (suc d) target (omega arith) h k)
    (ramp_good now (now + suc d) now (record { some = omega arith; short = omega arith; begun = omega arith }))
