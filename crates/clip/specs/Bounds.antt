-- What the theorems say of a clip and of its positions. Definitions only. Assumes nothing.
use Rattle.std.specs.Prelude.{◌≡◌, ℕ, true, false, T, Float}
use Rattle.std.specs.Float.{binary32}
use Rattle.std.specs.Float.Ieee.{sub, lt, le, eq, fits}
use Rattle.binary32.specs.Leaves.{zero32, one32, abs_of, sign_of}
use Rattle.clip.specs.Positions.{sum_of, position_at}
use Rattle.clip.specs.Updates.{speed_from, mode_from, length_from, data_length_from, with_speed, with_mode, with_length, with_data_length}
use Rattle.clip.specs.Refusals.{good_clip}
use Rattle.clip.specs.declared.Mode.{Mode}
use Rattle.clip.specs.declared.Clip.{Clip}
use Rattle.clip.specs.declared.Position.{Position}

-- each float of the clip is one of binary32, as every f32 of a program is
pub record Fitting (c : Clip) : Type 0 where
  pub start : T (fits binary32 c.start)
  pub speed : T (fits binary32 c.speed)
  pub length : T (fits binary32 c.length)
  pub data_length : T (fits binary32 c.data_length)
  pub shift : T (fits binary32 c.shift)

pub record Sound (c : Clip) : Type 0 where
  pub fitting : Fitting c
  pub good : T (good_clip c)

-- from 0 to below l, and at most l - 1
pub record Inside (x l : Float) : Type 0 where
  pub low : T (le zero32 x)
  pub top : T (le x (sub binary32 l one32))
  pub high : T (lt x l)

-- from 0 to below l
pub record Within (x l : Float) : Type 0 where
  pub low : T (le zero32 x)
  pub high : T (lt x l)

-- index and fraction add up "exactly" to the offset x (request 7/12): in value, and to x itself but for -0, of which the
-- sum is +0. The fraction is from +0 to below 1.
pub record AddsUp (p : Position) (x : Float) : Type 0 where
  pub equal : eq (sum_of p) x ≡ true
  pub exact : sum_of p ≡ abs_of x
  pub plus : sign_of p.fraction ≡ false
  pub low : T (le zero32 p.fraction)
  pub high : T (lt p.fraction one32)

-- "all callers take the new answer" (request 7/12): each update is that from what index and fraction add up to
pub record FromPosition (c : Clip) (now : ℕ) : Type 0 where
  pub speed : (speed : Float) → with_speed c now speed ≡ speed_from (sum_of (position_at c now)) c now speed
  pub mode : (mode : Mode) → with_mode c now mode ≡ mode_from (sum_of (position_at c now)) c now mode
  pub length : (length : Float) → with_length c now length ≡ length_from (sum_of (position_at c now)) c now length
  pub data_length : (length : Float)
      → with_data_length c now length ≡ data_length_from (sum_of (position_at c now)) c now length
