-- How a voice of one channel is followed through events. A voice is told by its place among those that there are: a
-- sample moves it up by as many as leave before it, and nothing else moves it. Definitions only. Assumes nothing.
use Rattle.std.specs.Prelude.{◌≡◌, ℕ, ◌≤◌, Bool, false, not, ◌&&◌, ◌||◌, cond, List, [], ◌∷◌, eqb, ltb, length, take, Float}
use Rattle.std.proofs.Math.Option.{Option, none, some}
use Rattle.std.proofs.Math.ListN.{get_elem?}
use Rattle.common_types.specs.declared.Params.{Params}
use Rattle.voice.specs.declared.Voice.{Voice}
use Rattle.voice.specs.Voices.{sounded_of, played_out_of, finish_of}
use Rattle.channel.specs.declared.Channel.{Channel}
use Rattle.channel.specs.declared.Change.TheVariants as change
use Rattle.std.specs.Prelude.{Option as Found, Some, None}
use Rattle.channel.specs.Channels.{live, find_of, sped_of, Turning, kept_of}
use Rattle.fates.specs.Engine.{born_of, held_at, turns_in}
use Rattle.fates.specs.Events.{Event, idle, changes, gathers, sounds, act, is_reset, empty_at, tick_at}

-- a channel as the engine has it: 32 places, and no more voices than those
pub record Housed (c : Channel) : Type 0 where
  pub places : length c.voices ≡ 32
  pub room : c.count ≤ 32

-- the voice at a place, if there is one
abbrev pub voice_at : Channel → ℕ → Option Voice
voice_at c n = get_elem? (live c) n

pub data Place : Type 0 where
  at : ℕ → Place
  gone : Place

-- ---- where it is afterwards

-- after a sample: one that leaves after its turn is gone, and any other stands behind those that are left before it
unfoldable pub fate_of : Turning → List Voice → ℕ → Option Voice → Place
fate_of s vs n none = gone
fate_of s vs n (some v) = cond (s.leaves (s.turn v)) gone (at (length (kept_of s (take n vs))))

-- on an empty recording nothing moves; a reset takes all
unfoldable pub follow : Event → Channel → ℕ → Place
follow (sounds p x m) c n = fate_of (turns_in p x m c) (live c) n (voice_at c n)
follow (changes change) c n = cond (is_reset (changes change)) gone (at n)
follow (gathers m) c n = at n
follow idle c n = at n

-- ---- what the event makes of it

abbrev pub finds_at : Found ℕ → ℕ → Bool
finds_at (Some i) n = eqb i n
finds_at None n = false

-- a stop finds that voice: it is the first unfinished one with the note
unfoldable pub stops : Event → Channel → ℕ → Bool
stops idle c n = false
stops (changes (change.Start p position note velocity)) c n = false
stops (changes (change.Stop p note)) c n = finds_at (find_of note c) n
stops (changes (change.Speed note speed)) c n = false
stops (changes (change.Head d)) c n = false
stops (changes change.Reset) c n = false
stops (gathers m) c n = false
stops (sounds p x m) c n = false

unfoldable pub becomes : Event → Channel → ℕ → Voice → Voice
becomes idle c n v = v
becomes (changes (change.Start p position note velocity)) c n v = v
becomes (changes (change.Stop p note)) c n v = cond (finds_at (find_of note c) n)
    (finish_of c.head.now p.decay_samples v) v
becomes (changes (change.Speed note speed)) c n v = sped_of note speed v
becomes (changes (change.Head d)) c n v = v
becomes (changes change.Reset) c n v = v
becomes (gathers m) c n v = v
becomes (sounds p x m) c n v = (turns_in p x m c).turn v

-- the voice that the event adds, at the end: a start's own, unless the recording is empty
unfoldable pub added_by : Event → Channel → List Voice
added_by idle c = []
added_by (changes (change.Start p position note velocity)) c =
    cond (eqb c.head.data_len 0 || not (ltb c.count 32)) [] (born_of p position note velocity c ∷ [])
added_by (changes (change.Stop p note)) c = []
added_by (changes (change.Speed note speed)) c = []
added_by (changes (change.Head d)) c = []
added_by (changes change.Reset) c = []
added_by (gathers m) c = []
added_by (sounds p x m) c = []

-- ---- whether the event finishes it

-- play-once has played it out; of a voice that is finished already this is false
unfoldable pub out_of : Params → Float → List ℕ → Channel → Option Voice → Bool
out_of p x m c none = false
out_of p x m c (some v) = not (empty_at m c v)
    && played_out_of (tick_at p m c v) (sounded_of (tick_at p m c v) (held_at x m c v) v)

unfoldable pub plays_out : Event → Channel → ℕ → Bool
plays_out (sounds p x m) c n = out_of p x m c (voice_at c n)
plays_out (changes change) c n = false
plays_out (gathers m) c n = false
plays_out idle c n = false

abbrev pub finishes : Event → Channel → ℕ → Bool
finishes e c n = stops e c n || plays_out e c n

-- ---- through a list of events
abbrev pub onward : Place → (ℕ → Place) → Place
onward (at n) f = f n
onward gone f = gone

unfoldable pub follow_all : List Event → Channel → ℕ → Place
follow_all [] c n = at n
follow_all (e ∷ es) c n = onward (follow e c n) (λ (k : ℕ). follow_all es (act e c) k)

-- one of the events does this to the voice, where it then stands
abbrev pub somewhere : Place → (ℕ → Bool) → Bool
somewhere (at n) f = f n
somewhere gone f = false

unfoldable pub stopped_in : List Event → Channel → ℕ → Bool
stopped_in [] c n = false
stopped_in (e ∷ es) c n = stops e c n || somewhere (follow e c n) (λ (k : ℕ). stopped_in es (act e c) k)

unfoldable pub finished_in : List Event → Channel → ℕ → Bool
finished_in [] c n = false
finished_in (e ∷ es) c n = finishes e c n || somewhere (follow e c n) (λ (k : ℕ). finished_in es (act e c) k)
