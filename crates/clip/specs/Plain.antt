-- Clips whose positions are whole numbers (request 8/12): in loop mode, at speed 1, with shift 0 and with whole start,
-- length and data length. Definitions only. Assumes nothing.
use Rattle.std.specs.Prelude.{◌≡◌, ℕ, ◌+◌, ◌%◌, ◌^◌, ◌≤◌, Bool, ◌&&◌, leb}
use Rattle.std.specs.Float.Ieee.{eq}
use Rattle.binary32.specs.Leaves.{zero32, one32, as_whole}
use Rattle.binary32.specs.Wholes.{Is, is_whole_in}
use Rattle.clip.specs.Positions.{elapsed_at}
use Rattle.clip.specs.Updates.{same_mode}
use Rattle.clip.specs.declared.Mode.TheVariants.{Loop}
use Rattle.clip.specs.declared.Clip.{Clip}

-- by value, so that zeros of either sign are alike. The length may exceed the data length, and so may the start.
pub record PlainClip (c : Clip) (start length total : ℕ) : Type 0 where
  pub loops : c.mode ≡ Loop
  pub shift : Is c.shift 0
  pub speed : Is c.speed 1
  pub start_is : Is c.start start
  pub length_is : Is c.length length
  pub total-is : Is c.data_length total
  pub start_top : start ≤ 2 ^ 22
  pub length_low : 1 ≤ length
  pub length_top : length ≤ 2 ^ 22
  pub total_low : 1 ≤ total
  pub total_top : total ≤ 2 ^ 22

-- the sample that sounds after so many, over whole numbers
abbrev pub plain_index : ℕ → ℕ → ℕ → ℕ → ℕ
plain_index start length total elapsed = (start + elapsed % length) % total

-- such a clip, as a test, with its start at most the data length
unfoldable pub is_plain : Clip → Bool
is_plain c =
    same_mode c.mode Loop
    && (eq c.shift zero32
    && (eq c.speed one32
    && (is_whole_in 0 (2 ^ 22) c.start
    && (is_whole_in 1 (2 ^ 22) c.length
    && (is_whole_in 1 (2 ^ 22) c.data_length && leb (as_whole 64 c.start) (as_whole 64 c.data_length))))))

-- and at a time at which its positions are whole: "an elapsed count of at most 2^24"
unfoldable pub plain_at : Clip → ℕ → Bool
plain_at c now = is_plain c && leb (elapsed_at c now) (2 ^ 24)
