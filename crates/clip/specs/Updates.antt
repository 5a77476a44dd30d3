-- How a clip is made and changes (document 01, module 4): an equal value changes nothing; otherwise the old offset is
-- read first, then the field set, then the shift found, the reversing test still using the old `since` and shift, and
-- `since` last. Each definition takes every clip and every value. Definitions only. Assumes nothing.
use Rattle.std.specs.Prelude.{ℕ, Bool, true, false, ◌&&◌, cond, Float, Option, Some, None}
use Rattle.std.specs.Float.{binary32}
use Rattle.std.specs.Float.Ieee.{add, sub, lt, le, eq}
use Rattle.binary32.specs.Leaves.{zero32}
use Rattle.clip.specs.Positions.{travel_at, round_trip_of, mirrored_of, offset_at}
use Rattle.clip.specs.declared.Mode.{Mode}
use Rattle.clip.specs.declared.Mode.TheVariants.{Loop, PingPong}
use Rattle.clip.specs.declared.Clip.{Clip}

unfoldable pub made_of : ℕ → Float → Float → Float → Float → Mode → Clip
made_of since start speed length data_length
    mode = record {
      since = since;
      start = start;
      speed = speed;
      length = length;
      data_length = data_length;
      shift = zero32;
      mode = mode;
    }

-- ---- one field changed
abbrev pub at_speed : Clip → Float → Clip
at_speed c speed =
    record {
      since = c.since;
      start = c.start;
      speed = speed;
      length = c.length;
      data_length = c.data_length;
      shift = c.shift;
      mode = c.mode;
    }

abbrev pub at_mode : Clip → Mode → Clip
at_mode c mode =
    record {
      since = c.since;
      start = c.start;
      speed = c.speed;
      length = c.length;
      data_length = c.data_length;
      shift = c.shift;
      mode = mode;
    }

abbrev pub at_length : Clip → Float → Clip
at_length c length =
    record {
      since = c.since;
      start = c.start;
      speed = c.speed;
      length = length;
      data_length = c.data_length;
      shift = c.shift;
      mode = c.mode;
    }

abbrev pub at_data_length : Clip → Float → Clip
at_data_length c
    length = record {
      since = c.since;
      start = c.start;
      speed = c.speed;
      length = c.length;
      data_length = length;
      shift = c.shift;
      mode = c.mode;
    }

-- the clip as it goes on from a place at a time
abbrev pub resumed : Clip → Float → ℕ → Clip
resumed c shift
    now = record {
      since = now;
      start = c.start;
      speed = c.speed;
      length = c.length;
      data_length = c.data_length;
      shift = shift;
      mode = c.mode;
    }

-- ---- the shift after a change

-- how far behind the start a place in the data lies, round its end where it lies before the start
unfoldable pub back_of : Clip → Float → Float
back_of c x = cond (le c.start x) (sub binary32 x c.start)
    (sub binary32 (add binary32 x c.data_length) c.start)

-- the place in the clip of a place in the data, if it is below the length
unfoldable pub found_at : Clip → Float → Option Float
found_at c x = cond (lt (back_of c x) c.length) (Some (back_of c x)) None

-- whether a ping-pong clip is on its way back
unfoldable pub reversing_at : Clip → ℕ → Bool
reversing_at c now = elim
    c.mode [ Loop ↦ false | PingPong ↦ le c.length (round_trip_of (travel_at c now) c.length) ]

unfoldable pub shift_for : Clip → Option Float → ℕ → Float
shift_for c (Some y) now = cond (reversing_at c now) (mirrored_of y c.length) y
shift_for c None now = zero32

-- the clip with its field set, and still its old shift and `since`, goes on from the old offset
unfoldable pub settled_of : Clip → Float → ℕ → Clip
settled_of c offset now = resumed c (shift_for c (found_at c offset) now) now

-- ---- the updates
abbrev pub same_mode : Mode → Mode → Bool
same_mode Loop Loop = true
same_mode Loop PingPong = false
same_mode PingPong Loop = false
same_mode PingPong PingPong = true

-- each from an offset
abbrev pub speed_from : Float → Clip → ℕ → Float → Clip
speed_from offset c now speed = cond (eq speed c.speed) c (settled_of (at_speed c speed) offset now)

abbrev pub mode_from : Float → Clip → ℕ → Mode → Clip
mode_from offset c now mode = cond (same_mode mode c.mode) c (settled_of (at_mode c mode) offset now)

abbrev pub length_from : Float → Clip → ℕ → Float → Clip
length_from offset c now length = cond (eq length c.length) c (settled_of (at_length c length) offset now)

-- back to place 0 only if the old offset is not below the new data length
abbrev pub data_length_from : Float → Clip → ℕ → Float → Clip
data_length_from offset c now length =
    cond (eq length c.data_length) c
    (cond (le length offset) (resumed (at_data_length c length) zero32 now) (at_data_length c length))

-- which is the old one. Index and fraction add up to it (7/12): an update of a good clip from their sum is the same
-- (Bounds.antt: FromPosition).
unfoldable pub with_speed : Clip → ℕ → Float → Clip
with_speed c now speed = speed_from (offset_at c now) c now speed

unfoldable pub with_mode : Clip → ℕ → Mode → Clip
with_mode c now mode = mode_from (offset_at c now) c now mode

unfoldable pub with_length : Clip → ℕ → Float → Clip
with_length c now length = length_from (offset_at c now) c now length

unfoldable pub with_data_length : Clip → ℕ → Float → Clip
with_data_length c now length = data_length_from (offset_at c now) c now length

-- ---- one update (2/12): the four in this order, each by its own test and from the offset that those before it left
abbrev pub with_all : Clip → ℕ → Float → Float → Float → Mode → Clip
with_all c now length speed data_length mode =
    with_mode (with_data_length (with_speed (with_length c now length) now speed) now data_length) now mode

-- whether each of the four would be skipped: the three floats' parts, and the mode's
abbrev pub same_values : Clip → Float → Float → Float → Bool
same_values c length speed data_length =
    eq length c.length && eq speed c.speed && eq data_length c.data_length

unfoldable pub same_all : Clip → Float → Float → Float → Mode → Bool
same_all c length speed data_length mode = same_values c length speed data_length && same_mode mode c.mode
