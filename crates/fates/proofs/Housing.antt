-- A channel keeps its 32 places, and never counts more voices than those. Assumes nothing.
use mathlib.Core.Path.{◌≡◌, refl, ◌∙◌}
use mathlib.Core.Bool.{Bool, true, false, cond}
use mathlib.Core.List.{List, map}
use Prim.Native.Nat.{ℕ, ◌+◌}
use native.Mathlib.Omega.{arith}
use borrow.Author.Tests.{ltb-true}
use lib.Dec.{eqb, ltb}
use lib.ListN.{length, get_or, set, length-set, length-replicate}
use lib.Seq.{length-sets}
use lib.Ieee.{Float}
use Rattle.common_types.specs.declared.InitParams.{InitParams}
use Rattle.common_types.specs.declared.Params.{Params}
use Rattle.common_types.specs.declared.Note.{Note}
use Rattle.voice.specs.declared.Voice.{Voice}
use Rattle.voice.specs.Voices.{finish_of, blank_voice}
use Rattle.channel.specs.declared.Channel.{Channel}
use Rattle.channel.specs.declared.Change.TheVariants as change
use Rattle.std.specs.Prelude.{Option, Some, None}
use Rattle.channel.specs.Channels.{
  live,
  head_changed_in,
  gathered_in,
  with_voices,
  channel_of,
  reset_of,
  handled_of,
  pushed_of,
  find_of,
  finished_at_of,
  stop_playing_of,
  sped_of,
  set_note_speed_of,
  Turning,
  kept_of,
  played_of,
  taken_of,
}
use Rattle.fates.specs.Engine.{born_of, begun_of, turns_in, step_of}
use Rattle.fates.specs.Events.{Event, idle, changes, gathers, sounds, act}
use Rattle.fates.specs.Places.{Housed}
use Rattle.fates.proofs.Lives.{live_length, left_length}

-- set-up
pub housed_new : (p : InitParams) → Housed (channel_of p)
unfolding channel_of
housed_new p = record { places = length-replicate 32 blank_voice; room = omega arith }

-- the head has no part in it
headless : (c d : Channel) → length c.voices ≡ length d.voices → c.count ≡ d.count → Housed d → Housed c
headless c d e f h = record { places = e ∙ h.places; room = omega (arith, h.room) }

housed_pushed : (v : Voice) (c : Channel) → Housed c → Housed (pushed_of v c)
unfolding pushed_of
housed_pushed v c h = go (ltb c.count 32) refl
  where
    go : (b : Bool) → ltb c.count 32 ≡ b → Housed (cond b (with_voices (set c.voices c.count v) (c.count + 1) c) c)
    go true e = record { places = length-set c.voices c.count v ∙ h.places; room = omega (arith, ltb-true c.count 32 e) }
    go false e = h

housed_started : (p : Params) (position : Float) (note : Note) (velocity : Float) (c : Channel) → Housed c → Housed (begun_of p position note velocity c)
unfolding begun_of handled_of
housed_started p position note velocity c h = go (eqb c.head.data_len 0)
  where
    v : Voice
    v = born_of p position note velocity c

    go : (b : Bool) → Housed (cond b c (handled_of p (pushed_of v c)))
    go true = h
    go false = headless (handled_of p (pushed_of v c)) (pushed_of v c) refl refl (housed_pushed v c h)

housed_finished : (p : Params) (c : Channel) (f : Option ℕ) → Housed c → Housed (finished_at_of p c f)
unfolding finished_at_of handled_of
housed_finished p c None h = h
housed_finished p c (Some i) h = go (ltb i 32)
  where
    vs : List Voice
    vs = set c.voices i (finish_of c.head.now p.decay_samples (get_or c.voices i blank_voice))

    go : (b : Bool) → Housed (cond b (handled_of p (with_voices vs c.count c)) c)
    go true = headless (handled_of p (with_voices vs c.count c)) c (length-set c.voices i _) refl h
    go false = h

housed_turned : (s : Turning) (c : Channel) → Housed c → Housed (played_of s c).channel
unfolding played_of
housed_turned s c h = record {
  places = length-sets c.voices 0 (kept_of s (live c)) ∙ h.places;
  room = omega (arith, left_length s (live c), live_length c h, h.room);
}

housed_sounded : (p : Params) (x : Float) (m : List ℕ) (c : Channel) → Housed c → Housed (step_of p x c m).channel
unfolding step_of taken_of
housed_sounded p x m c h =
    let taken : Channel = taken_of m c in
    let played : Channel = (played_of (turns_in p x m c) taken).channel in
    headless (step_of p x c m).channel played refl refl (housed_turned (turns_in p x m c) taken (headless taken c refl refl h))

pub housed : (e : Event) (c : Channel) → Housed c → Housed (act e c)
unfolding act stop_playing_of set_note_speed_of head_changed_in gathered_in reset_of
housed idle c h = h
housed (changes (change.Start p position note velocity)) c h = housed_started p position note velocity c h
housed (changes (change.Stop p note)) c h = housed_finished p c (find_of note c) h
housed (changes (change.Speed note speed)) c h = headless (set_note_speed_of note speed c) c (length-sets c.voices 0 (map (sped_of note speed) (live c))) refl h
housed (changes (change.Head d)) c h = headless (head_changed_in d c) c refl refl h
housed (changes change.Reset) c h = record { places = h.places; room = omega arith }
housed (gathers m) c h = headless (gathered_in c m) c refl refl h
housed (sounds p x m) c h = housed_sounded p x m c h
