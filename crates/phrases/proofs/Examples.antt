-- Phrases at their edges, each told from its nearest wrong neighbour, and gatherings word by word. Each holds by computation. Assumes nothing.
use Rattle.std.proofs.Common.{◌≡◌, ℕ, ◌-◌, ◌^◌, true, false, Some, None, List, [], ◌∷◌, set, refl}
use Rattle.phrases.specs.declared.Phrase.{Phrase}
use Rattle.phrases.specs.Phrases.{no_phrase, no_phrases, empty_from, no_samples, is_over_by, reach_of, apart_of, room_of, others_of, every_below, good_at, good_phrases, beside_with, beside_of}
use Rattle.phrases.specs.Gathering.{first_below, first_from, moved_down, gather_phrase, gather_next, gather_turns, gathering_of, sum_below, samples_of_all, samples_if, samples_before}
use Rattle.phrases.proofs.Gathered.Places.{gathered_phrase}

-- n samples from a place on
abbrev from : ℕ → ℕ → Phrase
from start n = record { start = start; length = n }

-- ---- two phrases

-- 2, 3, 4 and 5 touch, and have no sample in common; with 4 they have one. Whichever comes first
pub touching : (apart_of (from 2 3) (from 5 1) ≡ true) × (apart_of (from 5 1) (from 2 3) ≡ true)
    × (apart_of (from 2 3) (from 4 1) ≡ false) × (apart_of (from 4 1) (from 2 3) ≡ false)
unfolding apart_of is_over_by no_samples
touching = (refl, refl, refl, refl)

-- one inside another, and one with the same samples
pub inside : (apart_of (from 2 5) (from 3 1) ≡ false) × (apart_of (from 2 5) (from 2 5) ≡ false)
unfolding apart_of is_over_by no_samples
inside = (refl, refl)

-- an empty one has no sample in common with any, also where it begins inside it
pub empty_inside : (apart_of (from 2 5) (empty_from 3) ≡ true) × (apart_of (empty_from 3) (from 2 5) ≡ true) × (apart_of (empty_from 3) (empty_from 3) ≡ true)
unfolding apart_of is_over_by no_samples
empty_inside = (refl, refl, refl)

-- at the capacity, and one past it: also an empty one's start is judged
pub capacity_edge : (is_over_by 8 (from 5 3) ≡ true) × (is_over_by 8 (from 5 4) ≡ false) × (is_over_by 8 (empty_from 8) ≡ true) × (is_over_by 8 (empty_from 9) ≡ false)
unfolding is_over_by
capacity_edge = (refl, refl, refl, refl)

-- an empty one reaches nowhere; a sum that doesn't fit wraps
pub reaches : (reach_of (from 5 3) ≡ 8) × (reach_of (empty_from 5) ≡ 0) × (reach_of (from (2 ^ 64 - 1) 3) ≡ 2)
unfolding reach_of no_samples
reaches = (refl, refl, refl)

-- within the memory, across its end, at it and past it
pub rooms : (room_of (from 2 3) 8 ≡ record { from = 2; to = 5 }) × (room_of (from 6 3) 8 ≡ record { from = 6; to = 8 })
    × (room_of (from 8 3) 8 ≡ record { from = 8; to = 8 }) × (room_of (from 9 3) 8 ≡ record { from = 8; to = 8 })
unfolding room_of
rooms = (refl, refl, refl, refl)

-- ---- the eight of a channel

-- numbers 0, 2 and 5, whose places are in another order: 4 and 5, 0 and 1, 3. Number 6 is empty, and begins at 5
abbrev three : List Phrase
three = from 4 2 ∷ no_phrase ∷ from 0 2 ∷ no_phrase ∷ no_phrase ∷ from 3 1 ∷ empty_from 5 ∷ no_phrase ∷ []

-- whatever a table is judged by
judging : Unit {0}
unfolding good_phrases good_at every_below apart_of is_over_by no_samples
judging = tt

-- the order of numbers is none of places; the one that ends last ends by 6, and not by 5
pub out_of_order : (good_phrases 6 three ≡ true) × (good_phrases 5 three ≡ false)
unfolding judging
out_of_order = (refl, refl)

-- one overlap is found, of neighbours by number and of those far from each other, whichever of the two begins first
pub overlaps : (good_phrases 8 (set three 1 (from 5 1)) ≡ false) × (good_phrases 8 (set three 7 (from 1 1)) ≡ false) × (good_phrases 8 (set three 7 (from 5 2)) ≡ false)
    × (good_phrases 8 (set three 7 (from 2 1)) ≡ true)
unfolding judging
overlaps = (refl, refl, refl, refl)

-- an empty one past the capacity is bad
pub empty_past : (good_phrases 6 (set three 7 (empty_from 6)) ≡ true) × (good_phrases 6 (set three 7 (empty_from 7)) ≡ false)
unfolding judging
empty_past = (refl, refl)

-- the chosen one's entry is emptied, the others stay; a number past the table empties none
pub others : (others_of true 2 three ≡ from 4 2 ∷ no_phrase ∷ no_phrase ∷ no_phrase ∷ no_phrase ∷ from 3 1 ∷ empty_from 5 ∷ no_phrase ∷ [])
    × (others_of true 8 three ≡ three) × (others_of false 2 three ≡ no_phrases)
unfolding others_of
others = (refl, refl, refl)

-- ---- what others say to one that begins at a place
asking : Unit {0}
unfolding beside_of beside_with reach_of no_samples
asking = tt

-- one that begins at the place is the next, one that begins before it isn't; where none begins there is the capacity. How far they reach is the same everywhere
pub beside : (beside_of 0 8 three ≡ record { behind = 6; next = 0 }) × (beside_of 1 8 three ≡ record { behind = 6; next = 3 }) × (beside_of 3 8 three ≡ record { behind = 6; next = 3 })
    × (beside_of 4 8 three ≡ record { behind = 6; next = 4 }) × (beside_of 5 8 three ≡ record { behind = 6; next = 8 })
unfolding asking
beside = (refl, refl, refl, refl, refl)

-- an empty one far behind counts for neither, though one with a sample there does
pub far_empty : (beside_of 1 8 (set three 7 (empty_from 7)) ≡ record { behind = 6; next = 3 }) × (beside_of 5 8 (set three 7 (empty_from 7)) ≡ record { behind = 6; next = 8 })
    × (beside_of 5 8 (set three 7 (from 7 1)) ≡ record { behind = 8; next = 7 })
unfolding asking
far_empty = (refl, refl, refl)

-- ---- gathering
gathering : Unit {0}
unfolding gathering_of gather_turns gather_next gather_phrase first_below moved_down room_of no_samples
gathering = tt

abbrev words : List ℕ
words = 10 ∷ 11 ∷ 12 ∷ 13 ∷ 14 ∷ 15 ∷ 16 ∷ 17 ∷ []

-- the first by place, and not by number; at the place counts; where none begins, none
pub firsts : (first_from 0 three ≡ Some 2) × (first_from 1 three ≡ Some 5) × (first_from 3 three ≡ Some 5) × (first_from 4 three ≡ Some 0) × (first_from 5 three ≡ None)
unfolding gathering
firsts = (refl, refl, refl, refl, refl)

-- in the order of their places: number 2 stays, 5 goes to 2, and 0 behind it, over what was there. What is behind them is as it was, and the empty one begins at 5 as before
pub gathered : gathering_of three words
    ≡ record {
      phrases = from 3 2 ∷ no_phrase ∷ from 0 2 ∷ no_phrase ∷ no_phrase ∷ from 2 1 ∷ empty_from 5 ∷ no_phrase ∷ [];
      memory = 10 ∷ 11 ∷ 13 ∷ 14 ∷ 15 ∷ 15 ∷ 16 ∷ 17 ∷ [];
      from = 6;
      to = 5;
    }
unfolding gathering
gathered = refl

-- one that goes down by one, over its own words: each is read before it is written over
pub over_itself : gathering_of (set no_phrases 3 (from 1 7)) words
    ≡ record { phrases = set no_phrases 3 (from 0 7); memory = 11 ∷ 12 ∷ 13 ∷ 14 ∷ 15 ∷ 16 ∷ 17 ∷ 17 ∷ []; from = 8; to = 7 }
unfolding gathering
over_itself = refl

-- phrases that touch and begin at 0 stay, as do their words
abbrev touch : List Phrase
touch = from 3 2 ∷ from 0 3 ∷ no_phrase ∷ no_phrase ∷ no_phrase ∷ no_phrase ∷ no_phrase ∷ from 5 3 ∷ []

pub touching_stay : gathering_of touch words ≡ record { phrases = touch; memory = words; from = 8; to = 8 }
unfolding gathering
touching_stay = refl

-- those that touch behind a gap move as one
pub touching_move : gathering_of (set touch 1 (from 1 2)) words
    ≡ record { phrases = from 2 2 ∷ from 0 2 ∷ no_phrase ∷ no_phrase ∷ no_phrase ∷ no_phrase ∷ no_phrase ∷ from 4 3 ∷ []; memory = 11 ∷ 12 ∷ 13 ∷ 14 ∷ 15 ∷ 16 ∷ 17 ∷ 17 ∷ []; from = 8; to = 7 }
unfolding gathering
touching_move = refl

-- eight of one sample each, from the last place down: eight turns are enough
pub all_eight : gathering_of (from 15 1 ∷ from 13 1 ∷ from 11 1 ∷ from 9 1 ∷ from 7 1 ∷ from 5 1 ∷ from 3 1 ∷ from 1 1 ∷ [])
    (0 ∷ 1 ∷ 0 ∷ 2 ∷ 0 ∷ 3 ∷ 0 ∷ 4 ∷ 0 ∷ 5 ∷ 0 ∷ 6 ∷ 0 ∷ 7 ∷ 0 ∷ 8 ∷ [])
    ≡ record {
      phrases = from 7 1 ∷ from 6 1 ∷ from 5 1 ∷ from 4 1 ∷ from 3 1 ∷ from 2 1 ∷ from 1 1 ∷ from 0 1 ∷ [];
      memory = 1 ∷ 2 ∷ 3 ∷ 4 ∷ 5 ∷ 6 ∷ 7 ∷ 8 ∷ 0 ∷ 5 ∷ 0 ∷ 6 ∷ 0 ∷ 7 ∷ 0 ∷ 8 ∷ [];
      from = 16;
      to = 8;
    }
unfolding gathering
all_eight = refl

-- none, and empty ones alone, wherever they begin
pub gathered_none : (gathering_of no_phrases words ≡ record { phrases = no_phrases; memory = words; from = 0; to = 0 })
    × (gathering_of (set no_phrases 4 (empty_from 6)) words ≡ record { phrases = set no_phrases 4 (empty_from 6); memory = words; from = 0; to = 0 })
unfolding gathering
gathered_none = (refl, refl)

-- ---- where that leaves each: one that begins there doesn't begin before it
pub samples_before_lem : (samples_before 0 three ≡ 0) × (samples_before 3 three ≡ 2) × (samples_before 4 three ≡ 3) × (samples_before 8 three ≡ 5) × (samples_of_all three ≡ 5)
unfolding samples_before samples_of_all sum_below samples_if
samples_before_lem = (refl, refl, refl, refl, refl)

pub placed : (gathered_phrase three (from 4 2) ≡ from 3 2) × (gathered_phrase three (empty_from 5) ≡ empty_from 5)
unfolding gathered_phrase no_samples samples_before sum_below samples_if
placed = (refl, refl)
