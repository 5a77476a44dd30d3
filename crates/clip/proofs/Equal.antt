-- An update to an equal value changes nothing (document 01, module 4), and modes that are the same are equal. Assumes nothing.
use mathlib.Core.Path.{◌≡◌, refl, sym}
use Prim.Native.Nat.{ℕ}
use mathlib.Core.Bool.{Bool, true, false, cond, true≢false}
use lib.Dec.{T}
use lib.Ieee.{Float, eq, le}
use Rattle.binary32.specs.Leaves.{zero32}
use Rattle.clip.specs.Positions.{offset_at}
use Rattle.clip.specs.Updates.{at_speed, at_mode, at_length, at_data_length, resumed, settled_of, same_mode, with_speed, with_mode, with_length, with_data_length}
use Rattle.clip.specs.declared.Mode.{Mode}
use Rattle.clip.specs.declared.Mode.TheVariants.{Loop, PingPong}
use Rattle.clip.specs.declared.Clip.{Clip}

pub same_modes : (a b : Mode) → T (same_mode a b) → a ≡ b
same_modes Loop Loop t = refl
same_modes Loop PingPong t = absurd t
same_modes PingPong Loop t = absurd t
same_modes PingPong PingPong t = refl

first : (b : Bool) (c d : Clip) → b ≡ true → cond b c d ≡ c
first true c d h = refl
first false c d h = absurd (true≢false (sym h))

module _ (c : Clip) (now : ℕ) where
  pub with_length_equal : (length : Float) → eq length c.length ≡ true → with_length c now length ≡ c
  unfolding with_length
  with_length_equal length h = first (eq length c.length) c (settled_of (at_length c length) (offset_at c now) now) h

  pub with_speed_equal : (speed : Float) → eq speed c.speed ≡ true → with_speed c now speed ≡ c
  unfolding with_speed
  with_speed_equal speed h = first (eq speed c.speed) c (settled_of (at_speed c speed) (offset_at c now) now) h

  pub with_data_length_equal : (length : Float) → eq length c.data_length ≡ true → with_data_length c now length ≡ c
  unfolding with_data_length
  with_data_length_equal length h =
      let d = at_data_length c length in
      first (eq length c.data_length) c (cond (le length (offset_at c now)) (resumed d zero32 now) d) h

  pub with_mode_equal : (mode : Mode) → same_mode mode c.mode ≡ true → with_mode c now mode ≡ c
  unfolding with_mode
  with_mode_equal mode h = first (same_mode mode c.mode) c (settled_of (at_mode c mode) (offset_at c now) now) h
