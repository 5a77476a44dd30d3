-- What one call does to one channel: nothing, a change, a gather of its phrases (request 11/12) or a sample, these two
-- with the channel's part of the memory. A start and a sample are put together of their parts (Engine); the others are as
-- the contracts cite them. Definitions only. Assumes nothing.
use Rattle.std.specs.Prelude.{◌≡◌, ℕ, Bool, true, false, List, [], ◌∷◌, eqb, Float}
use Rattle.common_types.specs.declared.Params.{Params}
use Rattle.voice.specs.declared.Voice.{Voice}
use Rattle.voice.specs.declared.Tick.{Tick}
use Rattle.voice.specs.Voices.{tick_of}
use Rattle.channel.specs.declared.Channel.{Channel}
use Rattle.channel.specs.declared.Change.{Change}
use Rattle.channel.specs.declared.Change.TheVariants as change
use Rattle.channel.specs.Heads.{interpolates_after}
use Rattle.channel.specs.Channels.{head_changed_in, gathered_in, reset_of, stop_playing_of, set_note_speed_of}
use Rattle.fates.specs.Engine.{begun_of, moment_at, step_of}

pub data Event : Type 0 where
  idle : Event
  changes : (change : Change) → Event
  gathers : (m : List ℕ) → Event
  sounds : (p : Params) (x : Float) (m : List ℕ) → Event

unfoldable pub act : Event → Channel → Channel
act idle c = c
act (changes (change.Start p position note velocity)) c = begun_of p position note velocity c
act (changes (change.Stop p note)) c = stop_playing_of p note c
act (changes (change.Speed note speed)) c = set_note_speed_of note speed c
act (changes (change.Head d)) c = head_changed_in d c
act (changes change.Reset) c = reset_of c
act (gathers m) c = gathered_in c m
act (sounds p x m) c = (step_of p x c m).channel

unfoldable pub acts : List Event → Channel → Channel
acts [] c = c
acts (e ∷ es) c = acts es (act e c)

-- ---- request 7/12's setting after an event: a change that sets it does, and all else keeps it, reset too
unfoldable pub setting_after : Event → Bool → Bool
setting_after idle on = on
setting_after (changes (change.Start p position note velocity)) on = on
setting_after (changes (change.Stop p note)) on = on
setting_after (changes (change.Speed note speed)) on = on
setting_after (changes (change.Head d)) on = interpolates_after d on
setting_after (changes change.Reset) on = on
setting_after (gathers m) on = on
setting_after (sounds p x m) on = on

-- ---- what a voice finds in a sample

-- how many samples its recording has, once this one has been recorded
abbrev pub length_at : List ℕ → Channel → Voice → ℕ
length_at m c v = (moment_at m c v).data_len

-- its recording is then still empty
abbrev pub empty_at : List ℕ → Channel → Voice → Bool
empty_at m c v = eqb (length_at m c v) 0

-- what it shares with the other voices of its recording
abbrev pub tick_at : Params → List ℕ → Channel → Voice → Tick
tick_at p m c v = tick_of p (moment_at m c v)

-- the event is a sample with these parameters, and the voice v finds its recording not empty
pub record SampledIn (e : Event) (c : Channel) (p : Params) (v : Voice) : Type 0 where
  pub input : Float
  pub memory : List ℕ
  pub sample : e ≡ sounds p input memory
  pub finds : empty_at memory c v ≡ false

-- ---- kinds of events
unfoldable pub is_reset : Event → Bool
is_reset idle = false
is_reset (changes (change.Start p position note velocity)) = false
is_reset (changes (change.Stop p note)) = false
is_reset (changes (change.Speed note speed)) = false
is_reset (changes (change.Head d)) = false
is_reset (changes change.Reset) = true
is_reset (gathers m) = false
is_reset (sounds p x m) = false

unfoldable pub is_sample : Event → Bool
is_sample idle = false
is_sample (changes change) = false
is_sample (gathers m) = false
is_sample (sounds p x m) = true

-- the decay that comes with an event: that of a stop, or of a sample, in which play-once may finish a voice
unfoldable pub decay_of : Event → ℕ
decay_of idle = 0
decay_of (changes (change.Start p position note velocity)) = p.decay_samples
decay_of (changes (change.Stop p note)) = p.decay_samples
decay_of (changes (change.Speed note speed)) = 0
decay_of (changes (change.Head d)) = 0
decay_of (changes change.Reset) = 0
decay_of (gathers m) = 0
decay_of (sounds p x m) = p.decay_samples

-- ---- the last of the events e ∷ es, and the channel as that one finds it
abbrev pub last_of : Event → List Event → Event
last_of e [] = e
last_of e (d ∷ ds) = last_of d ds

unfoldable pub before_last : Event → List Event → Channel → Channel
before_last e [] c = c
before_last e (d ∷ ds) c = before_last d ds (act e c)
