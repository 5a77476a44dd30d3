-- Plain clips, computed beside `plain_index`, and the first count at which a position is no longer true; positions and next samples at their edges; what the quick functions may answer.
-- Assumes nothing.
use mathlib.Core.Path.{◌≡◌, refl, sym, ap}
use Prim.Native.Nat.{ℕ, ◌^◌, ◌<◌}
use mathlib.Core.Bool.{true, false, true≢false}
use native.Mathlib.Nat.{lt_irrefl}
use native.Mathlib.Omega.{arith}
use lib.Dec.{lit<}
use mathlib.Core.List.{List, [], ◌∷◌, map}
use lib.IntN.{negsuc}
use lib.Ieee.{Float, nan, fin, binary32, neg, of_int, add, sub, mul, rem, lt, le, eq, is_nan, to_unsigned}
use Rattle.binary32.specs.Leaves.{zero32, one32, as_float, sign_of, floor_of, min_of, max_of}
use Rattle.binary32.specs.Wholes.{is_whole_in}
use Rattle.clip.specs.Positions.{lead_of, travel_at, looped_of, round_trip_of, mirrored_of, bounced_of, wrapped_of, placed_of, clip_offset_at, clip_to_data_of, offset_at, position_of, sum_of, position_at, index_at, one_further, next_at}
use Rattle.clip.specs.Updates.{made_of, at_speed, at_length, same_all}
use Rattle.clip.specs.Plain.{plain_index, is_plain, plain_at}
use Rattle.clip.specs.Quick.{no_index, QuickIndex, QuickFraction, QuickNext}
use Rattle.clip.specs.declared.Mode.{Mode}
use Rattle.clip.specs.declared.Mode.TheVariants.{Loop, PingPong}
use Rattle.clip.specs.declared.Near.{Near}
use Rattle.clip.specs.declared.Clip.{Clip}

-- whatever an index computes by
unfoldable computing : Unit {0}
unfolding next_at one_further sum_of position_of index_at offset_at clip_to_data_of clip_offset_at placed_of wrapped_of looped_of bounced_of round_trip_of mirrored_of travel_at lead_of made_of floor_of min_of max_of of_int neg add sub mul rem lt le eq is_nan to_unsigned is_whole_in is_plain plain_at
computing = tt

-- a clip of since 0, at speed 1
abbrev clip_of : ℕ → ℕ → ℕ → Clip
clip_of start length total = made_of 0 (as_float start) (as_float 1) (as_float length) (as_float total) Loop

abbrev indices : ℕ → ℕ → ℕ → List ℕ → List ℕ
indices start length total times = map (λ (now : ℕ). index_at (clip_of start length total) now) times

abbrev wholes : ℕ → ℕ → ℕ → List ℕ → List ℕ
wholes start length total times = map (plain_index start length total) times

-- document 01's K1: past the end of the data and back
pub past_the_end : (indices 8 4 10 (0 ∷ 1 ∷ 2 ∷ 3 ∷ 4 ∷ []) ≡ 8 ∷ 9 ∷ 0 ∷ 1 ∷ 8 ∷ []) × (wholes 8 4 10 (0 ∷ 1 ∷ 2 ∷ 3 ∷ 4 ∷ []) ≡ 8 ∷ 9 ∷ 0 ∷ 1 ∷ 8 ∷ [])
unfolding computing
past_the_end = (refl, refl)

-- a start at the end of the data
pub at_the_end : (indices 10 4 10 (0 ∷ 1 ∷ []) ≡ 0 ∷ 1 ∷ []) × (wholes 10 4 10 (0 ∷ 1 ∷ []) ≡ 0 ∷ 1 ∷ [])
unfolding computing
at_the_end = (refl, refl)

-- a loop longer than the data
abbrev turns : List ℕ
turns = 0 ∷ 1 ∷ 2 ∷ 3 ∷ 4 ∷ 5 ∷ 6 ∷ 7 ∷ 8 ∷ 9 ∷ 10 ∷ 11 ∷ 12 ∷ 13 ∷ 14 ∷ []

abbrev turned : List ℕ
turned = 3 ∷ 4 ∷ 0 ∷ 1 ∷ 2 ∷ 3 ∷ 4 ∷ 3 ∷ 4 ∷ 0 ∷ 1 ∷ 2 ∷ 3 ∷ 4 ∷ 3 ∷ []

pub longer_than_the_data : (indices 3 7 5 turns ≡ turned) × (wholes 3 7 5 turns ≡ turned)
unfolding computing
longer_than_the_data = (refl, refl)

-- all at its limit
pub at_the_limits : (indices (2 ^ 22) (2 ^ 22) (2 ^ 22) (2 ^ 24 ∷ []) ≡ 0 ∷ []) × (wholes (2 ^ 22) (2 ^ 22) (2 ^ 22) (2 ^ 24 ∷ []) ≡ 0 ∷ [])
unfolding computing
at_the_limits = (refl, refl)

-- up to 2 ^ 24 the test passes and the index is true; one sample later the count has no float of its own, and the index is 0 where it should be 1
pub sharp : (plain_at (clip_of 0 4 10) 16777216 ≡ true) × (indices 0 4 10 (16777215 ∷ 16777216 ∷ 16777217 ∷ []) ≡ 3 ∷ 0 ∷ 0 ∷ [])
    × (wholes 0 4 10 (16777215 ∷ 16777216 ∷ 16777217 ∷ []) ≡ 3 ∷ 0 ∷ 1 ∷ [])
    × (plain_at (clip_of 0 4 10) 16777217 ≡ false)
unfolding computing
sharp = (refl, refl, refl, refl)

-- what the test lets through and what not: zeros of either sign, a start at the data's end and past it, a length of 1.5, another speed
pub test_edges : (is_plain (made_of 0 (neg (as_float 0)) (as_float 1) (as_float 7) (as_float 5) Loop) ≡ true)
    × (is_plain (clip_of 10 4 10) ≡ true)
    × (is_plain (clip_of 11 4 10) ≡ false)
    × (is_plain (at_length (clip_of 0 4 10) (fin false 3 (negsuc 0))) ≡ false)
    × (is_plain (at_speed (clip_of 0 4 10) (as_float 2)) ≡ false)
unfolding computing
test_edges = (refl, refl, refl, refl, refl)

-- ---- positions and next samples (request 7/12)
abbrev quarter : Float
quarter = fin false 1 (negsuc 1)

abbrev half : Float
half = fin false 1 (negsuc 0)

abbrev three_quarters : Float
three_quarters = fin false 3 (negsuc 1)

-- a clip of since 0 from the data's beginning, on 8 samples
abbrev from_zero : Float → Float → Mode → Clip
from_zero speed length mode = made_of 0 zero32 speed length (as_float 8) mode

-- index, fraction and next index
abbrev seen : Clip → List ℕ → List (ℕ × Float × ℕ)
seen c times = map (λ (now : ℕ). ((position_at c now).index, (position_at c now).fraction, next_at c now)) times

-- forwards at a quarter of the speed; no sample lies between the last one and the first of the next turn
pub forwards : seen (from_zero quarter (as_float 8) Loop) (4 ∷ 5 ∷ 6 ∷ 7 ∷ 8 ∷ 30 ∷ 31 ∷ 32 ∷ [])
    ≡ (1, zero32, 2) ∷ (1, quarter, 2) ∷ (1, half, 2) ∷ (1, three_quarters, 2) ∷ (2, zero32, 3) ∷ (7, zero32, 0) ∷ (7, zero32, 0) ∷ (0, zero32, 1) ∷ []
unfolding computing
forwards = refl

-- backwards: the fraction is still that above the index, and the next index the one below
pub backwards : seen (from_zero (neg quarter) (as_float 8) Loop) (0 ∷ 3 ∷ 4 ∷ 5 ∷ 6 ∷ 7 ∷ 8 ∷ 31 ∷ [])
    ≡ (7, zero32, 6) ∷ (7, zero32, 6) ∷ (6, three_quarters, 5) ∷ (6, half, 5) ∷ (6, quarter, 5) ∷ (6, zero32, 5) ∷ (5, three_quarters, 4) ∷ (0, zero32, 7) ∷ []
unfolding computing
backwards = refl

-- ping-pong of 4 turns at place 3, and so it is on the way back
pub way_back : seen (from_zero quarter (as_float 4) PingPong) (11 ∷ 12 ∷ 13 ∷ 16 ∷ 17 ∷ 18 ∷ 28 ∷ [])
    ≡ (2, three_quarters, 3) ∷ (3, zero32, 3) ∷ (3, zero32, 2) ∷ (3, zero32, 2) ∷ (2, three_quarters, 1) ∷ (2, half, 1) ∷ (0, zero32, 0) ∷ []
unfolding computing
way_back = refl

-- a length of 4.5: at 4 the clamp makes it 3.5, so that the fraction is 0.5, and 0 before the clamp
pub after_the_clamp : seen (from_zero one32 (fin false 9 (negsuc 0)) Loop) (3 ∷ 4 ∷ 5 ∷ 6 ∷ [])
    ≡ (3, zero32, 3) ∷ (3, half, 0) ∷ (0, half, 1) ∷ (1, half, 2) ∷ []
unfolding computing
after_the_clamp = refl

-- where the next sample is the one that sounds: a length of 1, a speed that is NaN, and an x so large that 1 added leaves it
pub next_is_same : (seen (from_zero half one32 Loop) (0 ∷ 1 ∷ []) ≡ (0, zero32, 0) ∷ (0, zero32, 0) ∷ [])
    × (seen (from_zero nan (as_float 4) Loop) (0 ∷ 1 ∷ []) ≡ (3, zero32, 3) ∷ (3, zero32, 3) ∷ [])
    × (seen (from_zero one32 (as_float 3) Loop) (16777215 ∷ 16777216 ∷ []) ≡ (0, zero32, 1) ∷ (1, zero32, 1) ∷ [])
unfolding computing
next_is_same = (refl, refl, refl)

-- a speed of -0 is not negative
pub not_negative : seen (from_zero (neg zero32) (as_float 4) Loop) (0 ∷ []) ≡ (0, zero32, 1) ∷ []
unfolding computing
not_negative = refl

-- from a start of -0 backwards: at the loop's beginning the offset is -0. What remains of it is +0, which the index taken off would not leave, and so is the sum.
abbrev from_minus_zero : Clip
from_minus_zero = made_of 0 (neg zero32) (neg one32) (as_float 4) (as_float 8) Loop

pub minus_zero : (offset_at from_minus_zero 3 ≡ neg zero32) × (seen from_minus_zero (3 ∷ []) ≡ (0, zero32, 3) ∷ []) × (sum_of (position_at from_minus_zero 3) ≡ zero32)
    × (sub binary32 (offset_at from_minus_zero 3) (as_float (index_at from_minus_zero 3)) ≡ neg zero32)
unfolding computing
minus_zero = (refl, refl, refl, refl)

-- ---- quick answers
apart : {n : ℕ} → n ≡ 0 → 0 < n → ⊥
apart e h = omega arith

abbrev near : ℕ → Float → Near
near index offset = record { index = index; offset = offset }

-- the clip of K1
abbrev QuickOfK1 : ℕ → Near → Type 0
QuickOfK1 now r = QuickIndex (clip_of 8 4 10) now (as_float 4) (as_float 1) (as_float 10) Loop r

-- a quick answer is the clip's index or none: past the end of the data, where 2 samples are elapsed, it may be 0 and not the place before it comes round
pub quick_or_none : QuickOfK1 2 (near 0 zero32) × QuickOfK1 2 (near no_index zero32) × (QuickOfK1 2 (near 10 (as_float 10)) → ⊥) × (QuickOfK1 2 (near 0 (neg zero32)) → ⊥)
unfolding computing same_all
quick_or_none =
    (λ h. (refl, refl, refl, tt), λ h. absurd (lt_irrefl no_index h), λ q. apart (q (lit< tt)).1 (lit< tt), λ q. true≢false (ap sign_of (q (lit< tt)).2))

-- and none where a part of the update would not be skipped, at which the index may be the same
pub quick_of_another_length : QuickIndex (clip_of 8 4 10) 2 (as_float 5) (as_float 1) (as_float 10) Loop (near 0 zero32) → ⊥
unfolding computing same_all
quick_of_another_length q = true≢false (sym (q (lit< tt)).0)

-- the fraction of -0 is +0
pub quick_minus_zero : QuickFraction (near 0 (neg zero32)) zero32 × (QuickFraction (near 0 (neg zero32)) (neg zero32) → ⊥)
unfolding computing
quick_minus_zero = (λ h e l. refl, λ q. true≢false (ap sign_of (q (lit< tt) refl tt)))

-- the next sample of the last place is the loop's first, and not the one behind it
pub quick_next_or_none : QuickNext (clip_of 8 4 10) 3 (as_float 4) (as_float 10) Loop 8 × QuickNext (clip_of 8 4 10) 3 (as_float 4) (as_float 10) Loop no_index
    × (QuickNext (clip_of 8 4 10) 3 (as_float 4) (as_float 10) Loop 2 → ⊥)
unfolding computing same_all
quick_next_or_none = (λ h speed same. refl, λ h. absurd (lt_irrefl no_index h), λ q. before_eight (q (lit< tt) (as_float 1) refl) (lit< tt))
  where
    before_eight : {n : ℕ} → n ≡ 8 → n < 8 → ⊥
    before_eight e h = omega arith
