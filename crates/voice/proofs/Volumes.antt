-- A sound volume stays sound as the clock moves on, after a step, and after a change within the limits. Assumes nothing.
use Prim.Native.Nat.{ℕ, ◌^◌, ◌≤◌}
use mathlib.Core.Bool.{Bool, true, false, cond}
use lib.Dec.{leb, eqb}
use lib.Ieee.{Float, binary32, sub, mul}
use lib.Ieee.Fits.{add-fits}
use Rattle.volume.specs.declared.Volume.{Volume}
use Rattle.volume.specs.declared.Volume.TheVariants.{Static, Linear}
use Rattle.volume.specs.Levels.{progress_of, level_of, time_after, toward_of, stepped_of}
use Rattle.volume.proofs.Goodness.{good_static, good_later, good_stepped, good_toward}
use Rattle.voice.specs.Soundness.{Fits, FittingVolume, SoundVolume}

-- ---- its levels
level_fits : (v : Volume) (now : ℕ) → FittingVolume v → Fits (level_of v now)
unfolding level_of FittingVolume
level_fits (Static x) now h = h
level_fits (Linear a b x y) now h = add-fits binary32 x (mul binary32 (sub binary32 y x) (progress_of a b now))

toward_fits : (v : Volume) (now duration : ℕ) (target : Float) → FittingVolume v → Fits target → FittingVolume (toward_of v now duration target)
unfolding toward_of FittingVolume
toward_fits v now duration target h t = go (eqb duration 0)
  where
    go : (b : Bool) → FittingVolume (cond b (Static target) (Linear now (time_after now duration) (level_of v now) target))
    go true = t
    go false = (level_fits v now h, t)

stepped_fits : (v : Volume) (now : ℕ) → FittingVolume v → FittingVolume (stepped_of v now)
unfolding stepped_of FittingVolume
stepped_fits (Static x) now h = h
stepped_fits (Linear a b x y) now h = go (leb b now)
  where
    go : (s : Bool) → FittingVolume (cond s (Static y) (Linear a b x y))
    go true = h.1
    go false = h

-- ---- the volume
pub static_sound : (x : Float) (now : ℕ) → Fits x → SoundVolume now (Static x)
unfolding FittingVolume
static_sound x now h = record { good = good_static x now; fitting = h }

module _ (v : Volume) (now : ℕ) (h : SoundVolume now v) where
  -- the clock moves on
  pub volume_later : (then : ℕ) → now ≤ then → SoundVolume then v
  volume_later then k = record { good = good_later v now then k h.good; fitting = h.fitting }

  pub volume_stepped_lem : (t : ℕ) → SoundVolume now (stepped_of v t)
  volume_stepped_lem t = record { good = good_stepped v now t h.good; fitting = stepped_fits v t h.fitting }

  pub volume_toward : (duration : ℕ) (target : Float) → now ≤ 2 ^ 48 → duration ≤ 2 ^ 24 → Fits target → SoundVolume now (toward_of v now duration target)
  volume_toward duration target a b t =
      record { good = good_toward v now duration target a b; fitting = toward_fits v now duration target h.fitting t }
