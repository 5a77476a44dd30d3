-- The tests of document 01's rows 1 to 6 in its own words, "given exactly when": whole numbers by ≤, floats by their
-- comparison. Definitions only. Assumes nothing.
use Rattle.std.specs.Prelude.{◌≡◌, true, false, ◌⊎◌, ◌≢◌, ◌↔◌, ℕ, ◌^◌, ◌≤◌, ◌<◌, Float}
use Rattle.std.specs.Float.Ieee.{lt}
use Rattle.binary32.specs.Leaves.{as_float}
use Rattle.common_types.specs.declared.Params.{Params}
use Rattle.common_types.specs.declared.Note.{Note}
use Rattle.common_types.specs.declared.time_value.TimeValue.{TimeValue}
use Rattle.common_types.specs.declared.time_value.TimeValue.TheVariants.{Bars}
use Rattle.common_types.specs.declared.time_value.TimeOrRatio.TheVariants.{Time, Ratio, WholeBars}
use Rattle.common_types.specs.Times.{as_samples_of}
use Rattle.common_types.specs.Settings.{time_length_of, beyond_limits}
use Rattle.channel.specs.declared.Channel.{Channel}
use Rattle.sampler.specs.declared.Sampler.{Sampler}
use Rattle.sampler.specs.Refusals.{channel_at, no_channel, bad_note, bad_position, any_full, at_end}
use Rattle.promises.specs.Broken.{In}

-- "attack or decay above its limit, ratio above 1, or a time length worked out above 2^22"; for whole bars (document
-- 02, 4/12) "4 by the same limit"
abbrev pub Beyond : Params → Type 0
Beyond p =
    (16777216 < p.attack_samples)
    ⊎ ((16777216 < p.decay_samples)
    ⊎ (((r : Float) × (p.loop_length ≡ Ratio r) × (lt (as_float 1) r ≡ true))
    ⊎ (((v : TimeValue) × (p.loop_length ≡ Time v) × (lt (as_float (2 ^ 22)) (time_length_of v p.transport) ≡ true))
    ⊎ ((x : Float) × (p.loop_length ≡ WholeBars x)
    × (lt (as_float (2 ^ 22)) (as_samples_of (Bars x) p.transport) ≡ true)))))

-- "some channel with a recording that isn't empty already holds 32 voices"
abbrev pub Full : Sampler → Type 0
Full s = (j : ℕ) × (j < s.count) × ((channel_at s j).head.data_len ≢ 0) × (32 ≤ (channel_at s j).count)

pub record RowTests : Type 0 where
  -- 1: "channel number not below the count"
  pub no_channel_lem : (s : Sampler) (j : ℕ) → (no_channel s j ≡ true) ↔ (s.count ≤ j)
  -- 2: "a note's channel above 15"
  pub bad_note_lem : (note : Note) → (bad_note note ≡ true) ↔ (15 < note.channel)
  -- 3: "start position not in 0 to 1, NaN included"
  pub bad_position_lem : (x : Float) → (bad_position x ≡ false) ↔ In 0 1 x
  -- 4
  pub beyond : (p : Params) → (beyond_limits p ≡ true) ↔ Beyond p
  -- 5
  pub full : (s : Sampler) → (any_full s ≡ true) ↔ Full s
  -- 6: "a channel the call would step has its clock at 2^48"; none has it further on (row 9)
  pub at-end : (c : Channel) → (at_end c ≡ true) ↔ (2 ^ 48 ≤ c.head.now)
