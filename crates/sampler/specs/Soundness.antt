-- What the theorems call sound of a record, and the records that set-up and calls reach. Definitions only. Assumes
-- nothing.
use Rattle.std.specs.Prelude.{◌≡◌, ◌≢◌, true, List, ℕ, length, Float}
use Rattle.walks.specs.Each.{Each}
use Rattle.common_types.specs.declared.InitParams.{InitParams}
use Rattle.common_types.specs.declared.Params.{Params}
use Rattle.voice.specs.Soundness.{FittingParams}
use Rattle.channel.specs.declared.Change.{Change}
use Rattle.channel.specs.Soundness.{FittingChannel, FittingChange}
use Rattle.sampler.specs.Refusals.{
  present,
  good_sampler,
  set_up_number,
  change_number,
  gather_number,
  sample_number,
  frame_number,
  channel_number,
}
use Rattle.sampler.specs.Samplers.{set_up_of, change_of, process_sample_of, framed_of, gather_of}
use Rattle.sampler.specs.declared.Sampler.{Sampler}

-- two channels, as in every sampler of a program
pub record FittingSampler (s : Sampler) : Type 0 where
  pub seats : length s.channels ≡ 2
  pub channels : Each FittingChannel (present s)

-- a record that row 9 doesn't answer
pub record SoundSampler (s : Sampler) : Type 0 where
  pub good : good_sampler s ≡ true
  pub fitting : FittingSampler s

-- ---- what set-up with memory of that size leaves as the record, and then any calls, refused or not
-- and with any memory lent to them
pub data Reached (size : ℕ) : Sampler → Type 0 where
  new : (count : ℕ) (p : InitParams) → set_up_number count size ≡ 0 → Reached size (set_up_of count p size).sampler
  changed : (s : Sampler) (x : Change) → Reached size s → FittingChange x → Reached size (change_of s x).sampler
  sampled : (s : Sampler) (j : ℕ) (x : Float) (p : Params) (m : List ℕ) → Reached size s → FittingParams p
      → Reached size (process_sample_of s j x p m).sampler
  framed : (s : Sampler) (frame : List Float) (p : Params) (m : List ℕ) → Reached size s → FittingParams p
      → Reached size (framed_of s frame p m).sampler
  gathered : (s : Sampler) (m : List ℕ) → Reached size s → Reached size (gather_of s m).sampler

-- row 9 answers no call, with memory of that size
pub record Unbroken (s : Sampler) (size : ℕ) : Type 0 where
  pub change : (x : Change) → change_number s x ≢ 9
  pub sample : (j : ℕ) (p : Params) → sample_number s j p size ≢ 9
  pub frame : (n : ℕ) (p : Params) → frame_number s n p size ≢ 9
  pub gather : gather_number s size ≢ 9
  pub question : (j : ℕ) → channel_number s j ≢ 9
