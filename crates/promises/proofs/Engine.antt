-- The parts put together are what the contracts cite. Assumes nothing.
use mathlib.Core.Path.{◌≡◌, refl, sym, ap}
use mathlib.Core.List.{List}
use Prim.Native.Nat.{ℕ}
use lib.Ieee.{Float, add}
use Rattle.common_types.specs.declared.Params.{Params}
use Rattle.common_types.specs.declared.NoteOffBehaviour.{NoteOffBehaviour}
use Rattle.common_types.specs.declared.NoteOffBehaviour.TheVariants as off
use Rattle.volume.specs.Levels.{is_static_and_mute_of}
use Rattle.phrases.specs.Phrases.{stored_in}
use Rattle.voice.specs.declared.Voice.{Voice}
use Rattle.voice.specs.declared.Tick.{Tick}
use Rattle.voice.specs.Voices.{late_of, over_of, should_remove_of, product_of, turn_of}
use Rattle.channel.specs.declared.Channel.{Channel}
use Rattle.channel.specs.declared.Played.{Played}
use Rattle.channel.specs.declared.Change.{Change}
use Rattle.channel.specs.declared.Change.TheVariants as change
use Rattle.channel.specs.Heads.{closed_of, mixed_of}
use Rattle.channel.specs.Channels.{with_head, any_unfinished_of, start_playing_of, Turning, played_of, added_of, turning_by, turning_of, phrase_at, moment_for, turning_in, taken_of, memory_of, process_sample_of, changed_of}
use Rattle.fates.specs.Engine.{begun_of, passes_over, voice_turned, lets_go, leaves_of, turns_by, moment_at, held_at, step_of}
use Rattle.fates.specs.Events.{changes, sounds, act}

pub changes_same : (d : Change) (c : Channel) → act (changes d) c ≡ changed_of d c
unfolding act changed_of begun_of start_playing_of
changes_same (change.Start p position note velocity) c = refl
changes_same (change.Stop p note) c = refl
changes_same (change.Speed note speed) c = refl
changes_same (change.Head d) c = refl
changes_same change.Reset c = refl

lets_same : (mode : NoteOffBehaviour) (t : Tick) (u : Voice) → lets_go mode t u ≡ over_of mode (is_static_and_mute_of u.volume) (late_of t u)
unfolding lets_go over_of
lets_same off.Decay t u = refl
lets_same off.ZeroCrossing t u = refl
lets_same off.DecayAndZeroCrossing t u = refl

pub leaves_same : (t : Tick) (u : Voice) → leaves_of t u ≡ should_remove_of t u
unfolding leaves_of should_remove_of
leaves_same t u = rw (lets_same t.note_off_behavior t u)

pub turns_same : (t : Tick) (m : List ℕ) → turns_by t m ≡ turning_by t m
unfolding turns_by turning_by voice_turned turn_of passes_over
turns_same t m = λ i. record { turn = turn_of t m; leaves = λ (u : Voice). leaves_same t u i; adds = λ (out : Float) (v : Voice). added_of (should_remove_of t v) out (product_of t m v) }

pub step_same : (p : Params) (x : Float) (c : Channel) (m : List ℕ) → step_of p x c m ≡ process_sample_of p x c m
unfolding step_of moment_at held_at process_sample_of turning_in closed_of add
step_same p x c m = ap (λ (by : Tick → List ℕ → Turning). by_parts by) (λ i t m. turns_same t m i)
  where
    d : Channel
    d = taken_of m c

    by_parts : (Tick → List ℕ → Turning) → Played
    by_parts by =
        let r = played_of (turning_of by p (λ (v : Voice). moment_for d v.phrase) (λ (v : Voice). stored_in (phrase_at d v.phrase) (memory_of x c m))) d in
        record { channel = with_head (closed_of p (any_unfinished_of r.channel) d.head) r.channel; output = mixed_of x r.output d.head; moved = r.moved }

pub sounds_same : (p : Params) (x : Float) (c : Channel) (m : List ℕ) → (process_sample_of p x c m).channel ≡ act (sounds p x m) c
unfolding act
sounds_same p x c m = ap (λ (r : Played). r.channel) (sym (step_same p x c m))
