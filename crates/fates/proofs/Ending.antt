-- A voice that was finished at count r with decay d: what it keeps until it goes, and that after a sample at a count of at least r plus the larger of d and that sample's decay it is to be removed,
-- in each of the three modes. Assumes nothing.
use mathlib.Core.Path.{◌≡◌, refl}
use mathlib.Core.Bool.{Bool, true, false, not, ◌&&◌, cond}
use mathlib.Core.List.{List}
use Prim.Native.Nat.{ℕ, ◌+◌, ◌-◌, ◌≤◌, max}
use native.Mathlib.Omega.{arith}
use borrow.Author.Tests.{leb-true, leb-false, le-leb, not-true}
use lib.Dec.{eqb, leb}
use lib.Ieee.{Float, le, eq}
use Rattle.walks.proofs.Lists.Every.{both}
use Rattle.binary32.specs.Leaves.{abs_of, zero32}
use Rattle.common_types.specs.declared.NoteOffBehaviour.{NoteOffBehaviour}
use Rattle.common_types.specs.declared.NoteOffBehaviour.TheVariants as off
use Rattle.common_types.specs.declared.Note.{Note}
use Rattle.volume.specs.declared.Volume.{Volume}
use Rattle.volume.specs.declared.Volume.TheVariants.{Static, Linear}
use Rattle.volume.specs.Levels.{is_static_and_mute_of, level_of, time_after, toward_of, stepped_of}
use Rattle.volume.proofs.Ends.{stepped_static, stepped_before, stepped_end, faded}
use Rattle.voice.specs.declared.Voice.{Voice}
use Rattle.voice.specs.declared.Tick.{Tick}
use Rattle.voice.specs.Voices.{late_of, sounded_of, played_out_of, ended_of, finish_of, volume_stepped, at_speed_of}
use Rattle.channel.specs.Channels.{same_note, sped_of}
use Rattle.fates.specs.Engine.{passes_over, voice_turned, lets_go, leaves_of}
use Rattle.walks.proofs.Tests.{joined}
use Rattle.fates.proofs.Stays.{unfinished_sounds}

-- at 0, or on the way there by r + d
abbrev pub Fades : ℕ → ℕ → Volume → Type 0
Fades r d (Static x) = eq x zero32 ≡ true
Fades r d (Linear a b x y) = (b ≤ r + d) × (eq y zero32 ≡ true)

pub record Ending (r d : ℕ) (v : Voice) : Type 0 where
  pub done : v.finished ≡ true
  pub when : v.finished_at ≡ r
  pub fades : Fades r d v.volume

-- ---- levels
zero_mute : eq zero32 zero32 ≡ true
unfolding eq
zero_mute = refl

toward_fades : (v : Volume) (r d : ℕ) → Fades r d (toward_of v r d zero32)
unfolding toward_of
toward_fades v r d = go (eqb d 0)
  where
    go : (b : Bool) → Fades r d (cond b (Static zero32) (Linear r (time_after r d) (level_of v r) zero32))
    go true = zero_mute
    go false = (omega arith, zero_mute)

stepped_fades : (r d : ℕ) (v : Volume) (now : ℕ) → Fades r d v → Fades r d (stepped_of v now)
stepped_fades r d (Static x) now h = rw (stepped_static x now) h
stepped_fades r d (Linear a b x y) now h = go (leb b now) refl
  where
    go : (s : Bool) → leb b now ≡ s → Fades r d (stepped_of (Linear a b x y) now)
    go true e = rw (stepped_end a b x y now (leb-true b now e)) h.1
    go false e = rw (stepped_before a b x y now (leb-false b now e)) h

faded_mute : (r d : ℕ) (v : Volume) (now : ℕ) → Fades r d v → r + d ≤ now → is_static_and_mute_of (stepped_of v now) ≡ true
faded_mute r d (Static x) now h l = rw (stepped_static x now) h
faded_mute r d (Linear a b x y) now h l = faded a b x y now h.1 (omega (arith, h.0))

-- ---- when the voice goes
lets_go_lem : (mode : NoteOffBehaviour) (t : Tick) (u : Voice) → is_static_and_mute_of u.volume ≡ true → late_of t u ≡ true → lets_go mode t u ≡ true
unfolding lets_go
lets_go_lem off.Decay t u mute late = mute
lets_go_lem off.ZeroCrossing t u mute late = late
lets_go_lem off.DecayAndZeroCrossing t u mute late = rw mute

leaves : (t : Tick) (u : Voice) → u.finished ≡ true → is_static_and_mute_of u.volume ≡ true → late_of t u ≡ true → leaves_of t u ≡ true
unfolding leaves_of
leaves t u finished mute late = joined u.finished (lets_go t.note_off_behavior t u) finished (lets_go_lem t.note_off_behavior t u mute late)

late : (t : Tick) (v : Voice) (r : ℕ) → v.finished_at ≡ r → r + t.decay_samples ≤ t.now → late_of t v ≡ true
unfolding late_of
late t v r e l = rw (le-leb t.decay_samples (t.now - v.finished_at) (omega arith))

module _ (t : Tick) (r d : ℕ) (v : Voice) (h : Ending r d v) where
  pub ending_stepped : Ending r d (volume_stepped t.now v)
  unfolding volume_stepped
  ending_stepped = record { done = h.done; when = h.when; fades = stepped_fades r d v.volume t.now h.fades }

  pub ending_over : r + max d t.decay_samples ≤ t.now → leaves_of t (volume_stepped t.now v) ≡ true
  unfolding volume_stepped
  ending_over l =
      let a : is_static_and_mute_of (stepped_of v.volume t.now) ≡ true = faded_mute r d v.volume t.now h.fades (omega arith) in
      let b : late_of t (volume_stepped t.now v) ≡ true = late t (volume_stepped t.now v) r h.when (omega arith) in
      leaves t (volume_stepped t.now v) h.done a b

-- ---- a turn of a voice that is finished, and the turn in which play-once finishes it
pub record Turns (t : Tick) (m : List ℕ) (v : Voice) (r d : ℕ) : Type 0 where
  pub voice : Voice
  pub turn : voice_turned t m v ≡ volume_stepped t.now voice
  pub ending : Ending r d voice

pub finish_ending : (now decay : ℕ) (v : Voice) → Ending now decay (finish_of now decay v)
unfolding finish_of
finish_ending now decay v = record { done = refl; when = refl; fades = toward_fades v.volume now decay }

not_out : (t : Tick) (v : Voice) → v.finished ≡ true → played_out_of t v ≡ false
unfolding played_out_of
not_out t v h = go t.once
  where
    go : (b : Bool) → (b && not v.finished && le t.span.whole_length (abs_of v.played)) ≡ false
    go true = rw h
    go false = refl

pub ending_turns : (t : Tick) (m : List ℕ) (v : Voice) (r d : ℕ) → Ending r d v → Turns t m v r d
unfolding voice_turned ended_of sounded_of
ending_turns t m v r d h = go (passes_over t v) refl
  where
    go : (b : Bool) → passes_over t v ≡ b → Turns t m v r d
    go true e = record { voice = v; turn = rw e; ending = h }
    go false e = record {
      voice = sounded_of t m v;
      turn = rw (e, not_out t (sounded_of t m v) h.done);
      ending = record { done = h.done; when = h.when; fades = h.fades };
    }

pub out_unfinished : (t : Tick) (m : List ℕ) (v : Voice) → played_out_of t (sounded_of t m v) ≡ true → v.finished ≡ false
unfolding played_out_of sounded_of
out_unfinished t m v h = not-true v.finished (both t.once (not v.finished) (both (t.once && not v.finished) _ h).0).1

pub out_turns : (t : Tick) (m : List ℕ) (v : Voice) → played_out_of t (sounded_of t m v) ≡ true → Turns t m v t.now t.decay_samples
unfolding voice_turned ended_of
out_turns t m v h = record {
  voice = finish_of t.now t.decay_samples (sounded_of t m v);
  turn = rw (unfinished_sounds t v (out_unfinished t m v h), h);
  ending = finish_ending t.now t.decay_samples (sounded_of t m v);
}

pub turns_ending : (t : Tick) (m : List ℕ) (v : Voice) (r d : ℕ) → Turns t m v r d → Ending r d (voice_turned t m v)
turns_ending t m v r d h = rw h.turn (ending_stepped t r d h.voice h.ending)

pub turns_over : (t : Tick) (m : List ℕ) (v : Voice) (r d : ℕ) → Turns t m v r d → r + max d t.decay_samples ≤ t.now → leaves_of t (voice_turned t m v) ≡ true
turns_over t m v r d h l = rw h.turn (ending_over t r d h.voice h.ending l)

-- ---- another speed
pub ending_sped : (note : Note) (speed : Float) (r d : ℕ) (v : Voice) → Ending r d v → Ending r d (sped_of note speed v)
unfolding sped_of at_speed_of
ending_sped note speed r d v h = go (same_note v.note note)
  where
    go : (b : Bool) → Ending r d (cond b (at_speed_of speed v) v)
    go true = record { done = h.done; when = h.when; fades = h.fades }
    go false = h
