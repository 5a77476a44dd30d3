-- Document 01's row 7 in its own words: of each public call of the small parts, the number of its answer, by tests on
-- whole numbers (`ltb a b` is a < b, `leb a b` is a ≤ b) and floats. Definitions only. Assumes nothing.
use Rattle.std.specs.Prelude.{◌≡◌, Bool, not, ◌&&◌, ◌||◌, ℕ, ◌+◌, ◌^◌, leb, ltb, Float}
use Rattle.std.specs.Float.{binary32}
use Rattle.std.specs.Float.Ieee.{mul, le, lt}
use Rattle.binary32.specs.Leaves.{as_float, floor_of}
use Rattle.refusals.specs.Refusals.{code_of}
use Rattle.common_types.specs.Modes.{
  loop_mode_from_index_of,
  loop_mode_from_f32_of,
  note_off_from_index_of,
  note_off_from_f32_of,
}
use Rattle.volume.specs.declared.Volume.{Volume}
use Rattle.volume.specs.declared.Volume.TheVariants.{Static, Linear}
use Rattle.volume.specs.Levels.{value_answer, to_of, step_answer}
use Rattle.clip.specs.declared.Clip.{Clip}
use Rattle.clip.specs.declared.Mode.{Mode}
use Rattle.clip.specs.Refusals.{
  new_clip_of,
  data_to_clip_of,
  is_pingpong_reversing_of,
  elapsed_of,
  clip_offset_of,
  offset_of,
  update_speed_of,
  update_mode_of,
  update_length_of,
  update_data_length_of,
  update_all_of,
}
use Rattle.promises.specs.Runs.{row}

-- a float that is not in a to b, NaN included
abbrev pub not_in : ℕ → ℕ → Float → Bool
not_in a b x = not (le (as_float a) x && le x (as_float b))

-- "A clip is bad if length or data length is not in 1 to 2^22, or start not in 0 to 2^22."
abbrev pub bad_sizes : Float → Float → Float → Bool
bad_sizes length data_length start = not_in 1 (2 ^ 22) length || not_in 1 (2 ^ 22) data_length || not_in 0 (2 ^ 22) start

abbrev pub bad_clip : Clip → Bool
bad_clip c = bad_sizes c.length c.data_length c.start

-- "a bad clip, .. a time before `since` or above 2^48"
abbrev pub bad_at : Clip → ℕ → Bool
bad_at c now = bad_clip c || ltb now c.since || ltb (2 ^ 48) now

-- "for a volume's `value`, `to` and `step` a time before the ramp's start or above 2^48, an empty ramp (end not after
-- start), a duration above 2^24". A steady volume has no ramp
abbrev pub bad_time : Volume → ℕ → Bool
bad_time (Static x) now = ltb (2 ^ 48) now
bad_time (Linear a b x y) now = ltb now a || ltb (2 ^ 48) now || leb b a || ltb (a + 2 ^ 24) b

pub record RowSeven : Type 0 where
  pub value : (v : Volume) (now : ℕ) → code_of (value_answer v now) ≡ row (bad_time v now) 7 0
  pub to : (v : Volume) (now duration : ℕ) (target : Float)
      → code_of (to_of v now duration target) ≡ row (bad_time v now || ltb (2 ^ 24) duration) 7 0
  pub step : (v : Volume) (now : ℕ) → code_of (step_answer v now) ≡ row (bad_time v now) 7 0
  -- "an index of 3 or more for the two modes, or `from_f32` reaching 3", which "takes floor(3x)"
  pub loop_mode_index : (i : ℕ) → code_of (loop_mode_from_index_of i) ≡ row (leb 3 i) 7 0
  pub note_off_index : (i : ℕ) → code_of (note_off_from_index_of i) ≡ row (leb 3 i) 7 0
  pub loop_mode_float : (x : Float)
      → code_of (loop_mode_from_f32_of x) ≡ row (le (as_float 3) (floor_of (mul binary32 x (as_float 3)))) 7 0
  pub note_off_float : (x : Float)
      → code_of (note_off_from_f32_of x) ≡ row (le (as_float 3) (floor_of (mul binary32 x (as_float 3)))) 7 0
  -- A new clip is refused where it would be bad, at its own time.
  pub new : (since : ℕ) (start speed length data_length : Float) (mode : Mode)
      → code_of (new_clip_of since start speed length data_length mode)
      ≡ row (bad_sizes length data_length start || ltb (2 ^ 48) since) 7 0
  -- "`data_to_clip` outside 0 to below the data length"
  pub data_to_clip : (c : Clip) (x : Float)
      → code_of (data_to_clip_of c x) ≡ row (bad_clip c || not (le (as_float 0) x && lt x c.data_length)) 7 0
  pub is_pingpong_reversing : (c : Clip) (now : ℕ)
      → code_of (is_pingpong_reversing_of c now) ≡ row (bad_at c now) 7 0
  pub elapsed : (c : Clip) (now : ℕ) → code_of (elapsed_of c now) ≡ row (bad_at c now) 7 0
  pub clip_offset : (c : Clip) (now : ℕ) → code_of (clip_offset_of c now) ≡ row (bad_at c now) 7 0
  pub offset : (c : Clip) (now : ℕ) → code_of (offset_of c now) ≡ row (bad_at c now) 7 0
  pub update_speed : (c : Clip) (now : ℕ) (speed : Float)
      → code_of (update_speed_of c now speed) ≡ row (bad_at c now) 7 0
  pub update_mode : (c : Clip) (now : ℕ) (mode : Mode) → code_of (update_mode_of c now mode) ≡ row (bad_at c now) 7 0
  -- "an update to such a length"
  pub update_length : (c : Clip) (now : ℕ) (length : Float)
      → code_of (update_length_of c now length) ≡ row (bad_at c now || not_in 1 (2 ^ 22) length) 7 0
  pub update_data_length : (c : Clip) (now : ℕ) (length : Float)
      → code_of (update_data_length_of c now length) ≡ row (bad_at c now || not_in 1 (2 ^ 22) length) 7 0
  -- 2/12: "7 as before, if any new length is bad"
  pub update_all : (c : Clip) (now : ℕ) (length speed data_length : Float) (mode : Mode)
      → code_of (update_all_of c now length speed data_length mode)
      ≡ row (bad_at c now || not_in 1 (2 ^ 22) length || not_in 1 (2 ^ 22) data_length) 7 0
