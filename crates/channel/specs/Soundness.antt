-- What the theorems call sound of a channel and of a change. Definitions only. Assumes nothing.
use Rattle.std.specs.Prelude.{◌≡◌, ℕ, ◌≤◌, ◌<◌, true, false, not, ◌&&◌, ◌||◌, eqb, length}
use Rattle.walks.specs.Each.{Each}
use Rattle.voice.specs.Soundness.{Fits, FittingParams, SoundParams, SoundPosition, FittingVolume, FittingVoice}
use Rattle.recorder.specs.Recording.{is_recording_of}
use Rattle.channel.specs.Heads.{holds_of}
use Rattle.channel.specs.Channels.{live, beside_in, uses_of, good_channel}
use Rattle.channel.specs.declared.Channel.{Channel}
use Rattle.channel.specs.declared.Change.{Change}
use Rattle.channel.specs.declared.Change.TheVariants as change
use Rattle.channel.specs.declared.HeadChange.{HeadChange}
use Rattle.channel.specs.declared.HeadChange.TheVariants.{
  StartRecording,
  StopRecording,
  Interpolate,
  Load,
  Choose,
  Delete,
}

-- 32 places, a table of 8, and each float one of binary32, as in every channel of a program
pub record FittingChannel (c : Channel) : Type 0 where
  pub places : length c.voices ≡ 32
  pub entries : length c.table ≡ 8
  pub voices : Each FittingVoice (live c)
  pub passthru : FittingVolume c.head.passthru_volume

-- a channel that may stand in a record of that capacity
pub record SoundChannel (capacity : ℕ) (c : Channel) : Type 0 where
  pub good : good_channel capacity c ≡ true
  pub fitting : FittingChannel c

-- the floats that a change carries
unfoldable pub FittingChange : Change → Type 0
FittingChange (change.Start p position note velocity) = FittingParams p × Fits position × Fits velocity
FittingChange (change.Stop p note) = FittingParams p
FittingChange (change.Speed note speed) = Fits speed
FittingChange (change.Head d) = Unit {0}
FittingChange change.Reset = Unit {0}

-- what rows 15, 18, 19, 20 and 21 let through: nothing of the channel is against it, and a number is below eight
unfoldable pub SoundHeadChange : ℕ → Channel → HeadChange → Type 0
SoundHeadChange capacity c StartRecording = Unit {0}
SoundHeadChange capacity c StopRecording = Unit {0}
SoundHeadChange capacity c (Interpolate on) = Unit {0}
SoundHeadChange capacity c (Load samples) =
    (is_recording_of c.head.recorder ≡ false) × (samples ≤ holds_of (beside_in capacity c) capacity c.head)
SoundHeadChange capacity c (Choose k) =
    (k < 8) × ((is_recording_of c.head.recorder && not (eqb k c.head.chosen)) ≡ false)
SoundHeadChange capacity c (Delete k) =
    (k < 8) × ((uses_of k c || (is_recording_of c.head.recorder && eqb k c.head.chosen)) ≡ false)

-- a change that fits, and that the rows of its call let through on this channel; row 5 isn't asked for
unfoldable pub SoundChange : ℕ → Channel → Change → Type 0
SoundChange capacity c (change.Start p position note velocity) =
    SoundParams p × SoundPosition position × Fits velocity
SoundChange capacity c (change.Stop p note) = SoundParams p
SoundChange capacity c (change.Speed note speed) = Fits speed
SoundChange capacity c (change.Head d) = SoundHeadChange capacity c d
SoundChange capacity c change.Reset = Unit {0}
