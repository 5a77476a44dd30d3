-- What it means that a voice sounds in a sample: its product is one of the terms whose sum is the output. Definitions
-- only. Assumes nothing.
use Rattle.std.specs.Prelude.{◌≡◌, ℕ, suc, false, ◌||◌, cond, List, [], ◌∷◌, ◌++◌, take, drop, Float}
use Rattle.std.proofs.Math.Option.{some}
use Rattle.std.specs.Float.{binary32}
use Rattle.std.specs.Float.Ieee.{add, mul}
use Rattle.std.specs.List.{fold}
use Rattle.common_types.specs.declared.Params.{Params}
use Rattle.volume.specs.Levels.{level_of}
use Rattle.binary32.specs.Leaves.{zero32}
use Rattle.voice.specs.declared.Voice.{Voice}
use Rattle.voice.specs.Voices.{product_of, at_speed_of}
use Rattle.channel.specs.declared.Channel.{Channel}
use Rattle.channel.specs.Channels.{live}
use Rattle.fates.specs.Engine.{passes_over, held_at, step_of}
use Rattle.fates.specs.Events.{empty_at, tick_at}
use Rattle.fates.specs.Places.{voice_at}

-- a voice's term: its recorded value times its level
abbrev pub term_of : Params → Float → List ℕ → Channel → Voice → Float
term_of p x m c v = product_of (tick_at p m c v) (held_at x m c v) v

-- the terms that are added, in the voices' order; a voice that is passed over adds none, nor one on an empty recording
unfoldable pub terms_of : Params → Float → List ℕ → Channel → List Voice → List Float
terms_of p x m c [] = []
terms_of p x m c (v ∷ vs) = cond (empty_at m c v || passes_over (tick_at p m c v) v) (terms_of p x m c vs)
    (term_of p x m c v ∷ terms_of p x m c vs)

-- 0 + x₁ + x₂ + .., from the left
unfoldable pub total_of : List Float → Float
total_of xs = fold (add binary32) zero32 xs

-- The voice v at place n sounds in the sample x, on the memory m with the parameters p: its term is an operand of the
-- sum, behind those of the voices before it. That the number can be read off the output is not said: a float sum may
-- absorb it.
pub record Sounds (p : Params) (x : Float) (m : List ℕ) (c : Channel) (n : ℕ) (v : Voice) : Type 0 where
  pub stands : voice_at c n ≡ some v
  pub unfinished : v.finished ≡ false
  pub output : (step_of p x c m).output
      ≡ add binary32
      (add binary32 zero32
      (total_of
      (terms_of p x m c (take n (live c)) ++ (term_of p x m c v ∷ terms_of p x m c (drop (suc n) (live c))))))
      (mul binary32 x (level_of c.head.passthru_volume c.head.now))

-- The voice at place n, which a start made as `fresh`, sounds in its first sample: it is as the start made it, but for
-- a speed that was set for its note meanwhile, and its clip began at the count of this sample.
pub record First (p : Params) (x : Float) (m : List ℕ) (c : Channel) (n : ℕ) (fresh : Voice) : Type 0 where
  pub voice : Voice
  pub as_started : voice ≡ at_speed_of voice.speed fresh
  pub since : voice.clip2.since ≡ c.head.now
  pub sounds : Sounds p x m c n voice
