-- On a good clip, for every shift, speed and time, NaN and infinities included: a position is from 0 to below the length and at most length - 1, which the Rust asserts,
-- and an offset is from 0 to below the data length. In units an offset is the sum of start and place, rounded, modulo the data length (`data_units`). Assumes nothing.
use Prim.Native.Nat.{ℕ, ◌+◌, ◌-◌, ◌*◌, ◌%◌, ◌^◌, ◌≤◌, ◌<◌, zero-le}
use native.Mathlib.Nat.{le_trans, lt_of_lt_of_le, lt_of_le_of_lt, mod-lt, sub-le, add-le-add}
use mathlib.Core.Bool.{false}
use lib.Dec.{T, lit≤, lit<}
use lib.Pow.{pow_pos}
use lib.Ieee.{Float, binary32, add, mul, fits}
use lib.Ieee.Fits.{add-fits, rem-fits}
use lib.Ieee.Scale.{overflow}
use Rattle.binary32.specs.Leaves.{as_float}
use Rattle.binary32.proofs.Units.{Grid, grid_multiple, Units, zero_units}
use Rattle.binary32.proofs.Rounding.{rd, rd_le}
use Rattle.binary32.proofs.Sums.{add_units}
use Rattle.binary32.proofs.Between.{whole}
use Rattle.binary32.proofs.Remainders.{rem_units}
use Rattle.clip.specs.Positions.{travel_at, elapsed_at, lead_of, placed_of, clip_offset_at, clip_to_data_of, offset_at}
use Rattle.clip.specs.Bounds.{Sound, Inside, Within}
use Rattle.clip.specs.declared.Clip.{Clip}
use Rattle.clip.proofs.Lengths.{good_parts, units_le, units_lt, length_units, last_units, start_units}
use Rattle.clip.proofs.Bounds.{placed_inside, placed_fits}

-- the start s, a place p as r, the length n and the data length d of a good clip in units. 1 is 2 ^ 149 units.
pub record Counts (c : Clip) (p : Float) : Type 0 where
  pub s : ℕ
  pub r : ℕ
  pub n : ℕ
  pub d : ℕ
  pub start : Units binary32 c.start s
  pub place : Units binary32 p r
  pub length : Units binary32 c.length n
  pub data_length : Units binary32 c.data_length d
  pub start_grid : Grid binary32 s
  pub start_top : s ≤ 2 ^ 22 * 2 ^ 149
  pub place_top : r ≤ n - 2 ^ 149
  pub length_low : 2 ^ 149 ≤ n
  pub length_top : n ≤ 2 ^ 22 * 2 ^ 149
  pub data_pos : 0 < d

pub counts : (c : Clip) → Sound c → (place : Float) → T (fits binary32 place) → Inside place c.length → Counts c place
counts c h place t i =
    let f = h.fitting in
    let good = good_parts c h.good in
    let start = start_units c.start f.start good.start_low good.start_top in
    let length = length_units c.length f.length good.length in
    let all = length_units c.data_length f.data_length good.data_length in
    let within = whole t (zero_units binary32 false) (last_units c.length f.length good.length) i.low i.top in
    record {
      s = start.count;
      r = within.count;
      n = length.count;
      d = all.count;
      start = start.is;
      place = within.is;
      length = length.is;
      data_length = all.is;
      start_grid = start.grid;
      start_top = start.to;
      place_top = within.to;
      length_low = length.from;
      length_top = length.to;
      data_pos = lt_of_lt_of_le (pow_pos 149) all.from;
    }

module _ (c : Clip) (place : Float) (k : Counts c place) where
  -- start and place together are at most 2 ^ 23
  sum_small : k.s + k.r ≤ 2 ^ 23 * 2 ^ 149
  sum_small = le_trans (add-le-add k.start_top (le_trans k.place_top (le_trans (sub-le k.n (2 ^ 149)) k.length_top))) (lit≤ tt)

  pub sum_under : rd binary32 (k.s + k.r) < overflow binary32
  sum_under = lt_of_le_of_lt (rd_le (grid_multiple binary32 (2 ^ 23) 149 (lit≤ tt)) sum_small) (lit< tt)

  pub sum_units : Units binary32 (add binary32 c.start place) (rd binary32 (k.s + k.r))
  sum_units = add_units k.start k.place sum_under

  pub data_units : T (fits binary32 c.data_length) → Units binary32 (clip_to_data_of c place) (rd binary32 (k.s + k.r) % k.d)
  unfolding clip_to_data_of
  data_units t = rem_units (add-fits binary32 c.start place) t k.data_pos sum_units k.data_length

pub data_within : (c : Clip) → Sound c → (place : Float) → T (fits binary32 place) → Inside place c.length → Within (clip_to_data_of c place) c.data_length
data_within c h place t i =
    let k = counts c h place t i in
    let u = data_units c place k h.fitting.data_length in
    record {
      low = units_le (zero_units binary32 false) u zero-le;
      high = units_lt u k.data_length (mod-lt (rd binary32 (k.s + k.r)) k.data_pos);
    }

pub data_fits : (c : Clip) (place : Float) → T (fits binary32 (clip_to_data_of c place))
unfolding clip_to_data_of
data_fits c place = rem-fits binary32 (add binary32 c.start place) c.data_length (add-fits binary32 c.start place)

-- what any x comes to by the rules
pub rules_inside : (c : Clip) → Sound c → (x : Float) → T (fits binary32 x) → Inside (placed_of c.mode x c.length) c.length
rules_inside c h x t = placed_inside c.mode x c.length t h.fitting.length (good_parts c h.good).length

-- ---- at a time
travel_fits : (c : Clip) (now : ℕ) → T (fits binary32 (travel_at c now))
unfolding travel_at
travel_fits c now = add-fits binary32 c.shift (mul binary32 (add binary32 (as_float (elapsed_at c now)) (lead_of c.speed)) c.speed)

pub clip_offset_fits : (c : Clip) (now : ℕ) → T (fits binary32 (clip_offset_at c now))
unfolding clip_offset_at
clip_offset_fits c now = placed_fits c.mode (travel_at c now) c.length (travel_fits c now)

pub offset_fits : (c : Clip) (now : ℕ) → T (fits binary32 (offset_at c now))
unfolding offset_at
offset_fits c now = data_fits c (clip_offset_at c now)

module _ (c : Clip) (now : ℕ) (h : Sound c) where
  pub clip_offset_inside : Inside (clip_offset_at c now) c.length
  unfolding clip_offset_at
  clip_offset_inside = rules_inside c h (travel_at c now) (travel_fits c now)

  pub offset_within : Within (offset_at c now) c.data_length
  unfolding offset_at
  offset_within = data_within c h (clip_offset_at c now) (clip_offset_fits c now) clip_offset_inside
