-- The loops over a channel's 32 places: where they begin, and the turns of those that store. Assumes nothing.
use mathlib.Core.Path.{◌≡◌}
use mathlib.Core.Bool.{false}
use mathlib.Core.List.{List, ◌∷◌, map}
use Prim.Native.Nat.{ℕ, ◌+◌}
use native.Mathlib.Numerals.{add-one}
use lib.ListN.{set}
use lib.Seq.{sets}
use lib.Ieee.{nan}
use Rattle.clip.specs.declared.Mode.TheVariants.{Loop}
use Rattle.volume.specs.declared.Volume.TheVariants.{Static}
use Rattle.voice.specs.declared.Voice.{Voice}
use Rattle.channel.specs.Channels.{with_voices}
use Rattle.channel.specs.declared.Channel.{Channel}

-- what the language's lists give past their end
abbrev pub none : Voice
none = record {
  finished_at = 0;
  last_sample_index = 0;
  clip2 = record { since = 0; start = nan; speed = nan; length = nan; data_length = nan; shift = nan; mode = Loop };
  volume = Static nan;
  loop_start_percent = nan;
  played = nan;
  last_sample_value = nan;
  speed = nan;
  note = record { note = 0; channel = 0 };
  finished = false;
  is_at_zero_crossing = false;
  phrase = 0;
}

-- ---- a walk that stores what it makes of each voice
abbrev pub map_from : (Voice → Voice) → Channel → ℕ → List Voice → Channel
map_from f c i vs = with_voices (sets c.voices i (map f vs)) c.count c

pub map_on : (f : Voice → Voice) (c : Channel) (i : ℕ) (v w : Voice) (vs : List Voice) → w ≡ f v → map_from f c i (v ∷ vs) ≡ map_from f (with_voices (set c.voices i w) c.count c) (i + 1) vs
map_on f c i v w vs e = rw (e, add-one i)
