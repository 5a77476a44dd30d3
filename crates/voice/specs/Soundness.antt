-- What the theorems call sound: good, as document 01's rows have it, and with every float one of binary32, as every f32
-- of a program is. Definitions only. Assumes nothing.
use Rattle.std.specs.Prelude.{◌≡◌, ℕ, true, not, T, Float}
use Rattle.std.specs.Float.{binary32}
use Rattle.std.specs.Float.Ieee.{le, fits}
use Rattle.common_types.specs.declared.Params.{Params}
use Rattle.common_types.specs.Settings.{carried, beyond_limits}
use Rattle.volume.specs.declared.Volume.{Volume}
use Rattle.volume.specs.declared.Volume.TheVariants.{Static, Linear}
use Rattle.volume.specs.Levels.{good_volume}
use Rattle.binary32.specs.Leaves.{zero32, one32}
use Rattle.clip.specs.Bounds.{Fitting}
use Rattle.voice.specs.Voices.{good_voice}
use Rattle.voice.specs.declared.Voice.{Voice}

abbrev pub Fits : Float → Type 0
Fits x = T (fits binary32 x)

-- Of the floats of parameters only the loop length's comes into a record as it is: each other one goes through an
-- operation, which rounds.
abbrev pub FittingParams : Params → Type 0
FittingParams p = Fits (carried p.loop_length)

-- parameters that row 4 lets through
pub record SoundParams (p : Params) : Type 0 where
  pub within : T (not (beyond_limits p))
  pub fitting : FittingParams p

-- a start position from 0 to 1
pub record SoundPosition (x : Float) : Type 0 where
  pub fitting : Fits x
  pub low : T (le zero32 x)
  pub high : T (le x one32)

-- the levels of a volume
unfoldable pub FittingVolume : Volume → Type 0
FittingVolume (Static x) = Fits x
FittingVolume (Linear a b x y) = Fits x × Fits y

-- a volume that may stand in a record whose clock is at `now`
pub record SoundVolume (now : ℕ) (v : Volume) : Type 0 where
  pub good : T (good_volume now v)
  pub fitting : FittingVolume v

-- every float of a voice
pub record FittingVoice (v : Voice) : Type 0 where
  pub clip : Fitting v.clip2
  pub volume : FittingVolume v.volume
  pub start_percent : Fits v.loop_start_percent
  pub played : Fits v.played
  pub last_value : Fits v.last_sample_value
  pub speed : Fits v.speed

-- a voice that may stand in such a record
pub record SoundVoice (now : ℕ) (v : Voice) : Type 0 where
  pub good : good_voice now v ≡ true
  pub fitting : FittingVoice v
