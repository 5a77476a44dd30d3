-- The position of a good clip: its index and the next one are below n, where the data length is n as a float; index and fraction add up to the offset. Assumes nothing.
use mathlib.Core.Path.{◌≡◌, refl, sym, subst}
use Prim.Native.Nat.{ℕ, ◌-◌, ◌/◌, ◌^◌, ◌≤◌, ◌<◌, min}
use native.Mathlib.Nat.{le_trans, le_of_eq, le_of_lt, lt_of_le_of_lt, lt_of_lt_of_le, div-lt_iff_lt-mul}
use native.Mathlib.Omega.{arith}
use mathlib.Core.Bool.{false}
use lib.Dec.{T, lit≤}
use lib.Pow.{pow_pos}
use lib.Ieee.{Float, binary32, add, sub, lt, fits, to_unsigned}
use lib.Ieee.Fits.{cond-fits, add-fits, sub-fits}
use Rattle.binary32.specs.Leaves.{zero32, one32, as_float}
use Rattle.binary32.proofs.Units.{zero_units}
use Rattle.binary32.proofs.Between.{whole_below}
use Rattle.binary32.proofs.Floors.{floor_cast}
use Rattle.binary32.proofs.Parts.{cast_units, rest_sign, rest_low, rest_high, parts_sum, parts_equal}
use Rattle.clip.specs.Positions.{travel_at, placed_of, clip_offset_at, clip_to_data_of, offset_at, index_of, position_of, sum_of, position_at, index_at, one_further, next_at}
use Rattle.clip.specs.Bounds.{Sound, Inside, Within, AddsUp}
use Rattle.clip.specs.declared.Clip.{Clip}
use Rattle.clip.proofs.Lengths.{good_parts, length_units, float_units}
use Rattle.clip.proofs.Bounds.{placed_fits}
use Rattle.clip.proofs.Offsets.{data_fits, data_within, rules_inside, clip_offset_fits, clip_offset_inside, offset_fits, offset_within}

pub position_index : (c : Clip) (now : ℕ) → (position_at c now).index ≡ index_at c now
unfolding position_of index_at
position_index c now = refl

-- the cast of a value from 0 to below n
cast_below : (w n : ℕ) (x : Float) → n ≤ 2 ^ 22 → T (fits binary32 x) → Within x (as_float n) → to_unsigned w x < n
cast_below w n x N t h =
    let k = whole_below t (zero_units binary32 false) (float_units n N) h.low h.high in
    let q = k.0.count / 2 ^ 149 in
    lt_of_le_of_lt (le_trans (le_of_eq (cast_units w x k.0.count k.0.is)) (least q (2 ^ w - 1))) ((div-lt_iff_lt-mul (pow_pos 149)).1 k.1)
  where
    least : (m n : ℕ) → min m n ≤ m
    least m n = omega arith

-- ---- the index of a place, and so of the sample that sounds and of the next one
module _ (c : Clip) (now n : ℕ) (h : Sound c) (e : c.data_length ≡ as_float n) (N : n ≤ 2 ^ 22) where
  place_below : (place : Float) → T (fits binary32 place) → Inside place c.length → index_of (clip_to_data_of c place) < n
  place_below place t i =
      let x = clip_to_data_of c place in
      subst (λ (z : ℕ). z < n) (sym (floor_cast 64 x (data_fits c place))) (cast_below 64 n x N (data_fits c place) (subst (Within x) e (data_within c h place t i)))

  pub index_below : index_at c now < n
  unfolding index_at offset_at
  index_below = place_below (clip_offset_at c now) (clip_offset_fits c now) (clip_offset_inside c now h)

  ahead_fits : (x speed : Float) → T (fits binary32 (one_further x speed))
  unfolding one_further
  ahead_fits x speed = cond-fits binary32 (lt speed zero32) (sub binary32 x one32) (add binary32 x one32) (sub-fits binary32 x one32) (add-fits binary32 x one32)

  pub next_below : next_at c now < n
  unfolding next_at
  next_below =
      let x = one_further (travel_at c now) c.speed in
      let t = ahead_fits (travel_at c now) c.speed in
      place_below (placed_of c.mode x c.length) (placed_fits c.mode x c.length t) (rules_inside c h x t)

-- ---- an offset is below 2 ^ 22, where a float holds index and fraction
pub adds_up : (c : Clip) (now : ℕ) → Sound c → AddsUp (position_at c now) (offset_at c now)
unfolding position_of sum_of
adds_up c now h =
    let t = offset_fits c now in
    let w = offset_within c now h in
    let d = length_units c.data_length h.fitting.data_length (good_parts c h.good).data_length in
    let k = whole_below t (zero_units binary32 false) d.is w.low w.high in
    let u = k.0.is in
    let small : k.0.count / 2 ^ 149 ≤ 2 ^ 24 = le_trans {m = 2 ^ 22} (le_of_lt ((div-lt_iff_lt-mul (pow_pos 149)).1 (lt_of_lt_of_le k.1 d.to))) (lit≤ tt) in
    record { equal = parts_equal t u small; exact = parts_sum t u small; plus = rest_sign t u; low = rest_low t u; high = rest_high t u }
