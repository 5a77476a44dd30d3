-- Document 01's row 9 in its own words: which records are whole, with whole numbers compared by ≤ and floats by their
-- comparison, in the document's order. The engine's tests are those of the crates' `good` definitions: `RowNine` says
-- that they are these. Definitions only. Assumes nothing.
use Rattle.std.specs.Prelude.{◌≡◌, true, ◌⊎◌, ◌≢◌, ◌↔◌, ℕ, ◌+◌, ◌*◌, ◌^◌, ◌≤◌, ◌<◌, length, Float}
use Rattle.std.proofs.Math.Option.{some}
use Rattle.std.specs.Float.Ieee.{le}
use Rattle.walks.specs.Each.{Each}
use Rattle.binary32.specs.Leaves.{as_float}
use Rattle.volume.specs.declared.Volume.TheVariants.{Linear}
use Rattle.recorder.specs.declared.State.TheVariants.{Triggered}
use Rattle.clip.specs.declared.Clip.{Clip}
use Rattle.voice.specs.declared.Voice.{Voice}
use Rattle.phrases.specs.declared.Phrase.{Phrase}
use Rattle.channel.specs.declared.Channel.{Channel}
use Rattle.channel.specs.Channels.{phrase_at}
use Rattle.sampler.specs.declared.Sampler.{Sampler}
use Rattle.sampler.specs.Refusals.{present, channel_at, good_sampler, good_with, capacity_of, set_up_number}
use Rattle.fates.specs.Places.{voice_at}

-- a float from a to b, which a NaN is not
abbrev pub In : ℕ → ℕ → Float → Type 0
In a b x = (le (as_float a) x ≡ true) × (le x (as_float b) ≡ true)

-- "A clip is bad if length or data length is not in 1 to 2^22, or start not in 0 to 2^22. Shift and speed may be
-- anything."
pub record GoodClip (c : Clip) : Type 0 where
  pub length : In 1 (2 ^ 22) c.length
  pub data_length : In 1 (2 ^ 22) c.data_length
  pub start : In 0 (2 ^ 22) c.start

-- a voice below the count
abbrev pub IsVoice : Channel → Voice → Type 0
IsVoice c v = (n : ℕ) × (voice_at c n ≡ some v)

-- a ramp from the time a to the time b: pass-through's, or that of a voice below the count
abbrev pub IsRamp : Channel → ℕ → ℕ → Type 0
IsRamp c a b = (x : Float) × (y : Float)
    × ((c.head.passthru_volume ≡ Linear a b x y) ⊎ ((v : Voice) × IsVoice c v × (v.volume ≡ Linear a b x y)))

-- no sample is of both: one of them has none, or one ends before the other begins
abbrev pub NoOverlap : Phrase → Phrase → Type 0
NoOverlap p q = (p.length ≡ 0)
    ⊎ ((q.length ≡ 0) ⊎ ((p.start + p.length ≤ q.start) ⊎ (q.start + q.length ≤ p.start)))

-- "a voice count exceeds 32, data length exceeds capacity, a write place exceeds the data length, the clock exceeds
-- 2^48, a `since`, `finished_at` or ramp start lies after the clock, a ramp is empty or longer than 2^24, or a clip is
-- bad. Only voices below the count are judged." And of request 11/12: the number of a voice's phrase "is below eight,
-- phrases don't overlap, all lie within the channel's capacity", and there is a chosen phrase.
pub record GoodChannel (capacity : ℕ) (c : Channel) : Type 0 where
  pub voices : c.count ≤ 32
  pub data_length : c.head.data_len ≤ capacity
  pub chosen : c.head.chosen < 8
  pub within : (k : ℕ) → k < 8 → (phrase_at c k).start + (phrase_at c k).length ≤ capacity
  pub apart : (j k : ℕ) → j < 8 → k < 8 → j ≢ k → NoOverlap (phrase_at c j) (phrase_at c k)
  pub phrase : (v : Voice) → IsVoice c v → v.phrase < 8
  pub write_place : (write : ℕ) → c.head.recorder.state ≡ Triggered write → write ≤ c.head.data_len
  pub clock : c.head.now ≤ 2 ^ 48
  pub since : (v : Voice) → IsVoice c v → v.clip2.since ≤ c.head.now
  pub finished_at : (v : Voice) → IsVoice c v → v.finished_at ≤ c.head.now
  pub ramp_start : (a b : ℕ) → IsRamp c a b → a ≤ c.head.now
  pub ramp_not_empty : (a b : ℕ) → IsRamp c a b → a < b
  pub ramp_length : (a b : ℕ) → IsRamp c a b → b ≤ a + 2 ^ 24
  pub clip : (v : Voice) → IsVoice c v → GoodClip v.clip2

-- 1 or 2 channels, of 1 to 2^22 samples
pub record GoodSizes (count capacity : ℕ) : Type 0 where
  pub channels : (count ≡ 1) ⊎ (count ≡ 2)
  pub least : 1 ≤ capacity
  pub most : capacity ≤ 2 ^ 22

-- "A record is broken if: channel count or capacity is not one that set_up can give," and so on for each channel
pub record GoodRecord (s : Sampler) : Type 0 where
  pub sizes : GoodSizes s.count s.capacity
  pub channels : (j : ℕ) → j < s.count → GoodChannel s.capacity (channel_at s j)

-- each table of phrases has eight entries, as in every record of a program
abbrev pub Tabled : Sampler → Type 0
Tabled s = Each (λ (c : Channel). length c.table ≡ 8) (present s)

pub record RowNine : Type 0 where
  -- "a broken record"
  pub broken : (s : Sampler) → Tabled s → (good_sampler s ≡ true) ↔ GoodRecord s
  -- "sample memory shorter than channel count times capacity"
  pub memory : (s : Sampler) (size : ℕ) → Tabled s
      → (good_with s size ≡ true) ↔ (GoodRecord s × (s.count * s.capacity ≤ size))
  -- "set_up with another channel count or capacity 0"
  pub set_up : (count size : ℕ)
      → (set_up_number count size ≡ 0) ↔ (((count ≡ 1) ⊎ (count ≡ 2)) × (capacity_of count size ≢ 0))
  -- "A channel's capacity is the lent memory's length divided by the channel count, rounded down, at most 2^22": the
  -- largest number n that is no more than that
  pub capacity : (count size n : ℕ) → 0 < count → (n ≤ capacity_of count size) ↔ ((n * count ≤ size) × (n ≤ 2 ^ 22))
  -- the sizes of a whole record are those "that set_up can give", with memory of some size
  pub given : (count capacity : ℕ)
      → GoodSizes count capacity ↔ ((size : ℕ) × (set_up_number count size ≡ 0) × (capacity_of count size ≡ capacity))
