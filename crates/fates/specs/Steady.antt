-- Samples that change the clip of a voice, where it then stands. Definitions only. Assumes nothing.
use Rattle.std.specs.Prelude.{ℕ, Bool, false, not, ◌&&◌, ◌||◌, List, [], ◌∷◌}
use Rattle.std.proofs.Math.Option.{Option, none, some}
use Rattle.common_types.specs.declared.Params.{Params}
use Rattle.voice.specs.declared.Voice.{Voice}
use Rattle.voice.specs.Agreeing.{agrees_of}
use Rattle.channel.specs.declared.Channel.{Channel}
use Rattle.fates.specs.Events.{Event, idle, changes, gathers, sounds, act, empty_at, tick_at}
use Rattle.fates.specs.Places.{voice_at, follow, somewhere}

-- the sample asks for another length, speed, data length or mode than the voice's clip has; on an empty recording it
-- asks for none
unfoldable pub disagrees : Params → List ℕ → Channel → Option Voice → Bool
disagrees p m c none = false
disagrees p m c (some v) = not (empty_at m c v) && not (agrees_of (tick_at p m c v) v)

-- only a sample changes a clip
unfoldable pub alters : Event → Channel → ℕ → Bool
alters (sounds p x m) c n = disagrees p m c (voice_at c n)
alters (changes change) c n = false
alters (gathers m) c n = false
alters idle c n = false

-- one of the events does, where the voice then stands
unfoldable pub altered_in : List Event → Channel → ℕ → Bool
altered_in [] c n = false
altered_in (e ∷ es) c n = alters e c n || somewhere (follow e c n) (λ (k : ℕ). altered_in es (act e c) k)
