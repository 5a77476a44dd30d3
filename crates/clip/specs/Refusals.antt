-- Document 01's number 7 for a clip, and each call under the Rust's name: refused, or what the definitions of Positions
-- and Updates say. Definitions only. Assumes nothing.
use Rattle.std.specs.Prelude.{◌≡◌, ℕ, ◌^◌, Bool, true, false, not, ◌&&◌, ◌||◌, cond, leb, pos, Float, Option, Result, Ok, Err}
use Rattle.std.specs.Float.{fin}
use Rattle.std.specs.Float.Ieee.{le, lt, eq}
use Rattle.binary32.specs.Leaves.{zero32, one32}
use Rattle.clip.specs.Positions.{elapsed_at, clip_offset_at, position_at}
use Rattle.clip.specs.Updates.{made_of, found_at, reversing_at, same_mode, with_speed, with_mode, with_length, with_data_length, with_all}
use Rattle.refusals.specs.declared.Refusal.{Refusal}
use Rattle.refusals.specs.declared.Refusal.TheVariants.{BadArgument}
use Rattle.refusals.specs.Refusals.{row}
use Rattle.clip.specs.declared.Mode.{Mode}
use Rattle.clip.specs.declared.Clip.{Clip}
use Rattle.clip.specs.declared.Position.{Position}

-- 2 ^ 22
abbrev pub most32 : Float
most32 = fin false 1 (pos 22)

-- a length or data length from 1 to 2 ^ 22, which a NaN is not
unfoldable pub good_length : Float → Bool
good_length length = le one32 length && le length most32

-- shift and speed may be anything
unfoldable pub good_clip : Clip → Bool
good_clip c = good_length c.length && good_length c.data_length && (le zero32 c.start && le c.start most32)

-- a bad clip, or a time before `since` or above 2 ^ 48
unfoldable pub clip_refused_at : Clip → ℕ → Bool
clip_refused_at c now = not (good_clip c && leb c.since now && leb now (2 ^ 48))

-- ---- the calls

-- a clip made above 2 ^ 48 would be refused at every time
unfoldable pub new_clip_of : ℕ → Float → Float → Float → Float → Mode → Result Clip Refusal
new_clip_of since start speed length data_length mode =
    let c = made_of since start speed length data_length mode in
    row (clip_refused_at c since) BadArgument (Ok c)

-- the place has to be in 0 to below the data length
unfoldable pub data_to_clip_of : Clip → Float → Result (Option Float) Refusal
data_to_clip_of c x = cond (good_clip c && (le zero32 x && lt x c.data_length)) (Ok (found_at c x))
    (Err BadArgument)

unfoldable pub is_pingpong_reversing_of : Clip → ℕ → Result Bool Refusal
is_pingpong_reversing_of c now = row (clip_refused_at c now) BadArgument (Ok (reversing_at c now))

unfoldable pub elapsed_of : Clip → ℕ → Result ℕ Refusal
elapsed_of c now = row (clip_refused_at c now) BadArgument (Ok (elapsed_at c now))

unfoldable pub clip_offset_of : Clip → ℕ → Result Float Refusal
clip_offset_of c now = row (clip_refused_at c now) BadArgument (Ok (clip_offset_at c now))

unfoldable pub offset_of : Clip → ℕ → Result Position Refusal
offset_of c now = row (clip_refused_at c now) BadArgument (Ok (position_at c now))

unfoldable pub update_speed_of : Clip → ℕ → Float → Result Clip Refusal
update_speed_of c now speed = row (clip_refused_at c now) BadArgument (Ok (with_speed c now speed))

unfoldable pub update_mode_of : Clip → ℕ → Mode → Result Clip Refusal
update_mode_of c now mode = row (clip_refused_at c now) BadArgument (Ok (with_mode c now mode))

unfoldable pub update_length_of : Clip → ℕ → Float → Result Clip Refusal
update_length_of c now length = row (clip_refused_at c now || not (good_length length)) BadArgument
    (Ok (with_length c now length))

unfoldable pub update_data_length_of : Clip → ℕ → Float → Result Clip Refusal
update_data_length_of c now length = row (clip_refused_at c now || not (good_length length)) BadArgument
    (Ok (with_data_length c now length))

-- the four at once: if either length is bad none of them is applied
abbrev pub unless_refused : Clip → ℕ → Float → Float → Clip → Result Clip Refusal
unless_refused c now length data_length d =
    row (clip_refused_at c now || not (good_length length) || not (good_length data_length)) BadArgument (Ok d)

unfoldable pub update_all_of : Clip → ℕ → Float → Float → Float → Mode → Result Clip Refusal
update_all_of c now length speed data_length mode =
    unless_refused c now length data_length (with_all c now length speed data_length mode)

-- a value that is equal to the clip's skips its own part alone: an answer that is no refusal is the clip by the other
-- three in their order
pub record AnswerSkips (c : Clip) (now : ℕ) (l s d : Float) (m : Mode) : Type 0 where
  pub length : eq l c.length ≡ true
      → update_all_of c now l s d m ≡ unless_refused c now l d (with_mode (with_data_length (with_speed c now s) now d) now m)
  pub speed : eq s c.speed ≡ true
      → update_all_of c now l s d m ≡ unless_refused c now l d (with_mode (with_data_length (with_length c now l) now d) now m)
  pub data_length : eq d c.data_length ≡ true
      → update_all_of c now l s d m ≡ unless_refused c now l d (with_mode (with_speed (with_length c now l) now s) now m)
  pub mode : same_mode m c.mode ≡ true
      → update_all_of c now l s d m
      ≡ unless_refused c now l d (with_data_length (with_speed (with_length c now l) now s) now d)

-- ---- the four public answers in turn: each is asked of the clip that the one before it left, and a refusal is carried on
abbrev pub then_of : Result Clip Refusal → (Clip → Result Clip Refusal) → Result Clip Refusal
then_of (Ok c) next = next c
then_of (Err refusal) next = Err refusal

unfoldable pub four_of : Clip → ℕ → Float → Float → Float → Mode → Result Clip Refusal
four_of c now length speed data_length mode =
    then_of (then_of (then_of (update_length_of c now length) (λ d. update_speed_of d now speed))
    (λ d. update_data_length_of d now data_length)) (λ d. update_mode_of d now mode)
