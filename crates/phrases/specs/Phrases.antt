-- A phrase, a stretch of a channel's part of the lent memory (request 11/12): the part is a list of samples, each its bit
-- pattern. Definitions only. Assumes nothing.
use Rattle.std.specs.Prelude.{ℕ, zero, suc, ◌+◌, ◌-◌, ◌%◌, ◌^◌, min, max, Bool, true, cond, not, ◌&&◌, ◌||◌, List, get_or, take, drop, replicate, ◌==◌, nat_le, slice_index_or, slice_set}
use Rattle.std.specs.List.{fold}
use Rattle.phrases.specs.declared.Phrase.{Phrase}
use Rattle.phrases.specs.declared.Room.{Room}
use Rattle.phrases.specs.declared.Beside.{Beside}

-- what a number without a recording has
abbrev pub no_phrase : Phrase
no_phrase = record { start = 0; length = 0 }

-- one without samples that begins there
abbrev pub empty_from : ℕ → Phrase
empty_from start = record { start = start; length = 0 }

unfoldable pub no_samples : Phrase → Bool
no_samples p = p.length == 0

-- it ends at that place or before it; one that ends by the capacity lies within it
unfoldable pub is_over_by : ℕ → Phrase → Bool
is_over_by place p = nat_le (p.start + p.length) place

-- how far it reaches: an empty one nowhere. The sum of one that lies in a memory doesn't wrap
unfoldable pub reach_of : Phrase → ℕ
reach_of p = cond (no_samples p) 0 ((p.start + p.length) % 2 ^ 64)

-- two have no sample in common
unfoldable pub apart_of : Phrase → Phrase → Bool
apart_of p q = (no_samples p || no_samples q) || (is_over_by q.start p || is_over_by p.start q)

-- its samples
unfoldable pub stored_in : Phrase → List ℕ → List ℕ
stored_in p m = take p.length (drop p.start m)

-- where they stand in a part of that size: within it also where the phrase is not
unfoldable pub room_of : Phrase → ℕ → Room
room_of p size =
    let from = min p.start size in
    record { from = from; to = from + min p.length (size - from) }

-- ---- the eight of a channel, by their numbers
abbrev pub no_phrases : List Phrase
no_phrases = replicate 8 no_phrase

-- the table without the chosen one's entry, which isn't looked at; where there aren't several, all others are empty
unfoldable pub others_of : Bool → ℕ → List Phrase → List Phrase
others_of several chosen table = cond several (slice_set table chosen no_phrase) no_phrases

-- f holds of every number below n
unfoldable pub every_below : ℕ → (ℕ → Bool) → Bool
every_below zero f = true
every_below (suc n) f = every_below n f && f n

-- the i-th lies within the capacity, and has no sample in common with those before it
unfoldable pub good_at : ℕ → List Phrase → ℕ → Bool
good_at capacity ps i =
    let p = get_or ps i no_phrase in
    is_over_by capacity p && every_below i (λ (j : ℕ). apart_of p (slice_index_or ps j no_phrase))

-- row 9 by them (request 11/12): "phrases don't overlap, all lie within the channel's capacity"
unfoldable pub good_phrases : ℕ → List Phrase → Bool
good_phrases capacity ps = every_below 8 (good_at capacity ps)

-- ---- phrases in the order of their numbers, each behind those before it: then they are good
-- it lies within the capacity and, if it has samples, not before a place
unfoldable pub clear_of : ℕ → ℕ → Phrase → Bool
clear_of upto capacity p = cond (no_samples p) (nat_le p.start capacity) (nat_le upto p.start && is_over_by capacity p)

-- how far phrases reach with one more behind them
unfoldable pub reach_from : ℕ → Phrase → ℕ
reach_from upto p = cond (no_samples p) upto (reach_of p)

unfoldable pub reach_below : List Phrase → ℕ → ℕ
reach_below ps zero = 0
reach_below ps (suc n) = reach_from (reach_below ps n) (slice_index_or ps n no_phrase)

-- the first n stand in order, within the capacity
unfoldable pub is_in_order : ℕ → List Phrase → ℕ → Bool
is_in_order capacity ps n = every_below n (λ (k : ℕ). clear_of (reach_below ps k) capacity (slice_index_or ps k no_phrase))

-- ---- what others say to a phrase that begins at a place: how far they reach, and where the first of them begins that
-- begins there or behind it; the capacity, where none does
abbrev pub beside_of_nothing : ℕ → Beside
beside_of_nothing capacity = record { behind = 0; next = capacity }

unfoldable pub beside_with : ℕ → Beside → Phrase → Beside
beside_with place b p = record {
  behind = max b.behind (reach_of p);
  next = cond (not (no_samples p) && nat_le place p.start) (min b.next p.start) b.next;
}

unfoldable pub beside_of : ℕ → ℕ → List Phrase → Beside
beside_of place capacity ps = fold (beside_with place) (beside_of_nothing capacity) ps
