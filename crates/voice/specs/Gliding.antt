-- Turns in which a voice glides: nothing of it changes but what it has just sounded and how far it has played. Most
-- turns are such, and there is a quick way for them. Definitions only. Assumes nothing.
use Rattle.std.specs.Prelude.{◌≡◌, ℕ, ◌<◌, Bool, true, not, ◌&&◌, cond, List, T, Float}
use Rattle.std.specs.Float.Ieee.{le}
use Rattle.binary32.specs.Leaves.{zero32}
use Rattle.volume.specs.Levels.{keeps_of}
use Rattle.clip.specs.declared.Clip.{Clip}
use Rattle.clip.specs.declared.Near.{Near}
use Rattle.clip.specs.Positions.{index_of, position_of, index_at, next_at}
use Rattle.clip.specs.Updates.{same_all}
use Rattle.clip.specs.Quick.{no_index}
use Rattle.voice.specs.Voices.{value_at, value_of, at_level_of, sounded_at, sounded_of, played_out_of, should_remove_of, turn_of}
use Rattle.voice.specs.Agreeing.{agrees_of}
use Rattle.voice.specs.declared.Voice.{Voice}
use Rattle.voice.specs.declared.Tick.{Tick}
use Rattle.voice.specs.declared.Quick.{Quick}

-- None of the four updates of the clip changes anything; the level is steady, or its ramp isn't over after the step;
-- play-once doesn't finish the voice; and it isn't to be removed, neither before its turn nor after it.
unfoldable pub glides_of : Tick → List ℕ → Voice → Bool
glides_of t m v =
    agrees_of t v
    && (keeps_of v.volume t.now
    && (not (played_out_of t (sounded_of t m v))
    && (not (should_remove_of t v) && not (should_remove_of t (turn_of t m v)))))

-- the voice as it has sounded by the clip that it has, at that index, from that sample: four fields are new
unfoldable pub glided_at : Tick → Voice → ℕ → Float → Voice
glided_at t v index sample = sounded_at t v v.clip2 index (at_level_of t v sample)

-- and at its clip's own index, by the value there: what a turn comes to that glides
abbrev pub glided_of : Tick → List ℕ → Voice → Voice
glided_of t m v = glided_at t v (index_at v.clip2 t.now) (value_of t m v.clip2)

-- whether a turn that leaves the voice as w neither ends it nor finds it to be removed, before or after
unfoldable pub goes_on_of : Tick → Voice → Voice → Bool
goes_on_of t v w = not (played_out_of t w) && (not (should_remove_of t v) && not (should_remove_of t w))

-- what a quick turn answers from its index and the value heard there on
unfoldable pub quick_at : Tick → Voice → ℕ → Float → Quick
quick_at t v index value =
    let w = sounded_at t v v.clip2 index value in
    record { voice = w; glides = goes_on_of t v w }

-- r is no index; or, if each of the four parts of the clip's update would be skipped, r is the next index where voices
-- interpolate, and else the index given
abbrev pub QuickBeside : Clip → ℕ → Tick → ℕ → Type 0
QuickBeside c index t r =
    r < no_index → (speed : Float) → same_all c t.span.length speed t.span.data_length t.mode ≡ true
    → r ≡ cond t.interpolates (next_at c t.now) index

-- near has no index, or not that of its offset, or an offset below 0; or r is the value at its offset
abbrev pub QuickValue : Tick → List ℕ → Near → ℕ → Float → Type 0
QuickValue t m near next r =
    near.index < no_index → near.index ≡ index_of near.offset → T (le zero32 near.offset)
    → r ≡ value_at t m (position_of near.offset) next

-- What a quick turn promises: where it answers that the voice glides, it is one of the tick's phrase, it does glide, and
-- its voice is the voice after it. Elsewhere its voice is not to be looked at.
abbrev pub Quickly : Tick → List ℕ → Voice → Quick → Type 0
Quickly t m v r = r.glides ≡ true → (v.phrase ≡ t.phrase) × (glides_of t m v ≡ true) × (r.voice ≡ turn_of t m v)
