-- The loops over a sampler's two channels: the turn of the one that stores, and what stands past the last. Assumes nothing.
use mathlib.Core.Path.{◌≡◌}
use mathlib.Core.Bool.{false}
use mathlib.Core.List.{List, [], ◌∷◌, map}
use Prim.Native.Nat.{ℕ, ◌+◌}
use native.Mathlib.Numerals.{add-one}
use lib.ListN.{set}
use lib.Seq.{sets}
use lib.Ieee.{nan}
use Rattle.volume.specs.declared.Volume.TheVariants.{Static}
use Rattle.recorder.specs.declared.State.TheVariants.{Triggered}
use Rattle.channel.specs.declared.Change.{Change}
use Rattle.channel.specs.declared.Channel.{Channel}
use Rattle.channel.specs.declared.Change.TheVariants.{Head}
use Rattle.channel.specs.declared.HeadChange.{HeadChange}
use Rattle.channel.specs.Channels.{head_changed_in, changed_of}
use Rattle.sampler.specs.Samplers.{with_channels}
use Rattle.sampler.specs.declared.Sampler.{Sampler}

-- what the language's lists give past their end
abbrev pub none : Channel
none = record {
  voices = [];
  table = [];
  count = 0;
  head = record {
    now = 0;
    data_len = 0;
    start = 0;
    passthru_volume = Static nan;
    recorder = record { state = Triggered 0; skipped_samples = 0; incorrect_state = 0 };
    passthru_on = false;
    interpolates = false;
    chosen = 0;
  };
  several = false;
}

-- a walk that stores what a change makes of each channel
abbrev pub each_from : Change → Sampler → ℕ → List Channel → Sampler
each_from change s j cs = with_channels (sets s.channels j (map (changed_of change) cs)) s

pub each_on : (change : Change) (s : Sampler) (j : ℕ) (c d : Channel) (cs : List Channel) → d ≡ changed_of change c
    → each_from change s j (c ∷ cs) ≡ each_from change (with_channels (set s.channels j d) s) (j + 1) cs
each_on change s j c d cs e = rw (e, add-one j)

-- the same where no voice is touched
pub head_on : (h : HeadChange) (s : Sampler) (j : ℕ) (c d : Channel) (cs : List Channel) → d ≡ head_changed_in h c
    → each_from (Head h) s j (c ∷ cs) ≡ each_from (Head h) (with_channels (set s.channels j d) s) (j + 1) cs
unfolding changed_of
head_on h s j c d cs e = each_on (Head h) s j c d cs e
