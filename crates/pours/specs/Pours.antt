-- Turns of one voice in a row, and what they add to the sums of as many samples (request 9/12, for runs). Definitions only.
-- Assumes nothing.
use Rattle.std.specs.Prelude.{◌≡◌, ℕ, zero, suc, ◌+◌, true, List, [], ◌∷◌, Option, MatchOption, Float}
use Rattle.std.specs.Float.{binary32}
use Rattle.std.specs.Float.Ieee.{add}
use Rattle.voice.specs.declared.Voice.{Voice}
use Rattle.voice.specs.declared.Tick.{Tick}
use Rattle.voice.specs.Voices.{turn_of}
use Rattle.voice.specs.Gliding.{glides_of}
use Rattle.plain_voice.specs.declared.Hot.{Hot}
use Rattle.plain_voice.specs.Hots.{judged_of}
use Rattle.pours.specs.declared.Pouring.{Pouring}

-- the tick k samples on, while nothing is recorded: only the clock is new
abbrev pub later : ℕ → Tick → Tick
later k t = record {
  now = t.now + k;
  decay_samples = t.decay_samples;
  span = t.span;
  speed = t.speed;
  mode = t.mode;
  once = t.once;
  note_off_behavior = t.note_off_behavior;
  interpolates = t.interpolates;
  phrase = t.phrase;
}

-- a voice after n turns
unfoldable pub turns_of : Tick → List ℕ → ℕ → Voice → Voice
turns_of t m zero v = v
turns_of t m (suc n) v = turns_of (later 1 t) m n (turn_of t m v)

-- each of which glides
unfoldable pub GlidesOn : Tick → List ℕ → ℕ → Voice → Type 0
GlidesOn t m zero v = Unit {0}
GlidesOn t m (suc n) v = (glides_of t m v ≡ true) × GlidesOn (later 1 t) m n (turn_of t m v)

-- what each adds to the sum of its sample
unfoldable pub poured_on : Tick → List ℕ → ℕ → Voice → List Float → List Float
poured_on t m zero v sums = sums
poured_on t m (suc n) v [] = []
poured_on t m (suc n) v (x ∷ sums) =
    let w = turn_of t m v in
    add binary32 x w.last_sample_value ∷ poured_on (later 1 t) m n w sums

-- the voice's position after them, judged after each
unfoldable pub judged_on : Tick → List ℕ → ℕ → Voice → Hot → Hot
judged_on t m zero v h = h
judged_on t m (suc n) v h =
    let w = turn_of t m v in
    judged_on (later 1 t) m n w (judged_of h t.interpolates w.clip2 t.now)

-- What pouring a voice that eases promises: it is one of the tick's phrase, each of its turns glides, it and its position
-- are what they are after them, and the sums have what they add
pub record Poured (h : Hot) (v : Voice) (t : Tick) (m : List ℕ) (n : ℕ) (before after : List Float) (r : Pouring) : Type 0 where
  pub own : v.phrase ≡ t.phrase
  pub glides : GlidesOn t m n v
  pub voice : r.voice ≡ turns_of t m n v
  pub hot : r.hot ≡ judged_on t m n v h
  pub sums : after ≡ poured_on t m n v before

-- elsewhere the sums are what they were
abbrev pub Pours : Hot → Voice → Tick → List ℕ → ℕ → List Float → List Float → Option Pouring → Type 0
Pours h v t m n before after r = MatchOption r (after ≡ before) (Poured h v t m n before after)
