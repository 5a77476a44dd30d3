-- When a plain voice eases over n samples, and what it then comes to in one go (request 9/12, for runs). Definitions only.
-- Assumes nothing.
use Rattle.std.specs.Prelude.{◌≡◌, ℕ, ◌+◌, ◌-◌, ◌*◌, ◌/◌, ◌%◌, ◌^◌, ◌≤◌, ◌<◌, true, false, List, T, Float, length, get_or}
use Rattle.std.specs.Float.{nan, binary32}
use Rattle.std.specs.Float.Ieee.{add, mul, lt}
use Rattle.binary32.specs.Leaves.{as_float, as_whole, crossing_of}
use Rattle.binary32.specs.Wholes.{Is}
use Rattle.volume.specs.Levels.{is_static_of}
use Rattle.clip.specs.Positions.{elapsed_at}
use Rattle.clip.specs.Updates.{same_all}
use Rattle.clip.specs.Plain.{PlainClip}
use Rattle.voice.specs.declared.Voice.{Voice}
use Rattle.voice.specs.declared.Tick.{Tick}
use Rattle.voice.specs.Voices.{recorded_value_of}
use Rattle.plain_voice.specs.declared.Hot.{Hot}
use Rattle.plain_voice.specs.declared.Beat.{Beat}

-- ---- when it eases

-- Whatever its position beside it: its clip is plain and stays as it is for n samples, its level is steady, it is one of
-- the tick's phrase and unfinished, p samples played is a count that stays exact, and play-once doesn't end it.
pub record EasesVoice (t : Tick) (start length total p n : ℕ) (v : Voice) : Type 0 where
  pub own : v.phrase ≡ t.phrase
  pub unfinished : v.finished ≡ false
  pub steady : is_static_of v.volume ≡ true
  pub same : same_all v.clip2 t.span.length (mul binary32 v.speed t.speed) t.span.data_length t.mode ≡ true
  pub profile : PlainClip v.clip2 start length total
  pub inside : start ≤ total
  pub sharp : t.interpolates ≡ false
  pub begun : v.clip2.since ≤ t.now
  pub early : elapsed_at v.clip2 t.now + n ≤ 2 ^ 24
  pub played : Is v.played p
  pub few : p + n ≤ 2 ^ 24
  pub lasts : t.once ≡ true → T (lt (as_float (p + n)) t.span.whole_length)

-- What the test says: that it eases, of a recording of `room` samples that has all of the clip's data, and that h is its
-- position.
pub record EasesAt (h : Hot) (v : Voice) (t : Tick) (b : Beat) (room n : ℕ) : Type 0 where
  pub plain : h.plain ≡ true
  pub some : 1 ≤ n
  pub eases : EasesVoice t h.start b.length b.total (as_whole 64 v.played) n v
  pub held : b.total ≤ room
  pub place : h.place < b.length
  pub stands : h.lap * b.length + h.place ≡ elapsed_at v.clip2 t.now

-- ---- what it comes to

-- what it adds from that index
abbrev pub term_at : List ℕ → Float → ℕ → Float
term_at m level index = mul binary32 (recorded_value_of m index) level

-- r is what was added before the last of n terms, which may be what was added before all of them
pub record LastButOne (before : Float) (term : ℕ → Float) (n : ℕ) (r : Float) : Type 0 where
  pub first : n < 2 → r ≡ before
  pub later : 2 ≤ n → r ≡ term (n - 2)

-- the voice as it has last sounded that value, after `last`
unfoldable pub last_heard : Voice → ℕ → Float → Float → Float → Voice
last_heard v index value last played = record {
  finished_at = v.finished_at;
  last_sample_index = index;
  clip2 = v.clip2;
  volume = v.volume;
  loop_start_percent = v.loop_start_percent;
  played = played;
  last_sample_value = value;
  speed = v.speed;
  note = v.note;
  finished = v.finished;
  is_at_zero_crossing = crossing_of value last;
  phrase = v.phrase;
}

-- the position n samples on
unfoldable pub moved_on : Hot → ℕ → ℕ → Hot
moved_on h n length = record {
  place = (h.place + n) % length;
  lap = h.lap + (h.place + n) / length;
  start = h.start;
  plain = true;
}

-- each sum from one place on and before another has had its term added, and the others are what they were
pub record Added (term : ℕ → Float) (from upto : ℕ) (before after : List Float) : Type 0 where
  pub size : length after ≡ length before
  pub inside : (k : ℕ) → from ≤ k → k < upto → get_or after k nan ≡ add binary32 (get_or before k nan) (term k)
  pub low : (k : ℕ) → k < from → get_or after k nan ≡ get_or before k nan
  pub high : (k : ℕ) → upto ≤ k → get_or after k nan ≡ get_or before k nan
