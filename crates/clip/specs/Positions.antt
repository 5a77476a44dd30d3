-- Where a clip is at a time (document 01, module 4). Floats are binary32, and operations go in the Rust's order. Each
-- definition takes every clip and every time. Definitions only. Assumes nothing.
use Rattle.std.specs.Prelude.{◌≡◌, ℕ, ◌-◌, Bool, false, cond, pos, Float}
use Rattle.std.specs.Float.{fin, binary32}
use Rattle.std.specs.Float.Ieee.{add, sub, mul, rem, lt, le}
use Rattle.binary32.specs.Leaves.{zero32, one32, as_float, as_whole, floor_of, min_of, max_of, abs_of}
use Rattle.clip.specs.declared.Mode.{Mode}
use Rattle.clip.specs.declared.Mode.TheVariants.{Loop, PingPong}
use Rattle.clip.specs.declared.Clip.{Clip}
use Rattle.clip.specs.declared.Position.{Position}
use Rattle.clip.specs.declared.Standing.{Standing}
use Rattle.clip.specs.declared.Sounding.{Sounding}

abbrev pub two32 : Float
two32 = fin false 1 (pos 1)

-- the samples since the clip's last change; 0 at a time before it
abbrev pub elapsed_at : Clip → ℕ → ℕ
elapsed_at c now = now - c.since

-- r: 1 for negative speed, else 0
unfoldable pub lead_of : Float → Float
lead_of speed = cond (lt speed zero32) one32 zero32

-- x = shift + (elapsed + r) * speed
unfoldable pub travel_at : Clip → ℕ → Float
travel_at c now =
    add binary32 c.shift (mul binary32 (add binary32 (as_float (elapsed_at c now)) (lead_of c.speed)) c.speed)

-- loop: x % length, plus length if that isn't >= 0
abbrev pub raised_of : Float → Float → Float
raised_of y length = cond (le zero32 y) y (add binary32 y length)

unfoldable pub looped_of : Float → Float → Float
looped_of x length = raised_of (rem binary32 x length) length

-- |x| % (2 * length): how far on a way of 2 * length, there and back
unfoldable pub round_trip_of : Float → Float → Float
round_trip_of x length = rem binary32 (abs_of x) (mul binary32 two32 length)

-- 2 * length - y - 1: the place that y on the way back comes to
unfoldable pub mirrored_of : Float → Float → Float
mirrored_of y length = sub binary32 (sub binary32 (mul binary32 two32 length) y) one32

-- ping-pong: y on the way there, otherwise (NaN too) its mirror place, at least 0
abbrev pub folded_of : Float → Float → Float
folded_of y length = cond (lt y length) y (max_of (mirrored_of y length) zero32)

unfoldable pub bounced_of : Float → Float → Float
bounced_of x length = folded_of (round_trip_of x length) length

unfoldable pub wrapped_of : Mode → Float → Float → Float
wrapped_of Loop x length = looped_of x length
wrapped_of PingPong x length = bounced_of x length

-- then the smaller of it and length - 1, where NaN yields the other
abbrev pub clamped_of : Float → Float → Float
clamped_of y length = min_of y (sub binary32 length one32)

unfoldable pub placed_of : Mode → Float → Float → Float
placed_of mode x length = clamped_of (wrapped_of mode x length) length

unfoldable pub clip_offset_at : Clip → ℕ → Float
clip_offset_at c now = placed_of c.mode (travel_at c now) c.length

-- the place in the data of a place in the clip: (start + that) % data length
unfoldable pub clip_to_data_of : Clip → Float → Float
clip_to_data_of c place = rem binary32 (add binary32 c.start place) c.data_length

unfoldable pub offset_at : Clip → ℕ → Float
offset_at c now = clip_to_data_of c (clip_offset_at c now)

-- the whole part of an offset, and what remains of it (request 7/12): of -0 that is +0
abbrev pub index_of : Float → ℕ
index_of offset = as_whole 64 (floor_of offset)

unfoldable pub position_of : Float → Position
position_of offset = record { index = index_of offset; fraction = sub binary32 offset (floor_of offset) }

-- what the two add up to
unfoldable pub sum_of : Position → Float
sum_of p = add binary32 (as_float p.index) p.fraction

abbrev pub position_at : Clip → ℕ → Position
position_at c now = position_of (offset_at c now)

-- the sample that sounds
unfoldable pub index_at : Clip → ℕ → ℕ
index_at c now = index_of (offset_at c now)

-- ---- the next sample (request 7/12)

-- "x with 1 added (taken off for negative speed)": -0 and NaN are not negative
unfoldable pub one_further : Float → Float → Float
one_further x speed = cond (lt speed zero32) (sub binary32 x one32) (add binary32 x one32)

-- "put through the same loop or ping-pong rule, clamp, offset and floor"
unfoldable pub next_at : Clip → ℕ → ℕ
next_at c now =
    index_of (clip_to_data_of c (placed_of c.mode (one_further (travel_at c now) c.speed) c.length))

-- ---- a clip at a time, as the code carries it

-- with the float of the samples since its last change
unfoldable pub standing_of : Clip → ℕ → Standing
standing_of c now = record { clip = c; now = now; elapsed = as_float (elapsed_at c now) }

-- its float is that
abbrev pub StandsNow : Standing → Type 0
StandsNow s = s.elapsed ≡ as_float (elapsed_at s.clip s.now)

-- the next index where it is asked for, else the index
abbrev pub next_if_smooth : Clip → ℕ → Bool → ℕ
next_if_smooth c now smooth = cond smooth (next_at c now) (index_at c now)

-- with its position
unfoldable pub sounding_of : Clip → ℕ → Bool → Sounding
sounding_of c now smooth = record { clip = c; position = position_at c now; next = next_if_smooth c now smooth }
