-- Phrases moved down in a channel's part of the memory (request 11/12): "A gather call moves phrases down, in order, each
-- sample keeping its bits, so that all free room is one stretch behind them". Definitions only. Assumes nothing.
use Rattle.std.specs.Prelude.{ℕ, zero, suc, ◌+◌, ◌-◌, true, cond, not, ◌&&◌, Option, Some, None, List, ◌++◌, length, get_or, take, drop, nat_le, nat_lt, slice_index_or, slice_set}
use Rattle.std.specs.Option.{option_map_or}
use Rattle.phrases.specs.declared.Phrase.{Phrase}
use Rattle.phrases.specs.Phrases.{no_phrase, no_samples, room_of}

-- of the first n, the number of the one that begins first of those that begin at a place or behind it, if one does. An empty
-- one begins nowhere
unfoldable pub first_below : ℕ → List Phrase → ℕ → Option ℕ
first_below place ps zero = None
first_below place ps (suc n) =
    let found = first_below place ps n in
    let p = get_or ps n no_phrase in
    let sooner = option_map_or (λ k. nat_lt p.start (get_or ps k no_phrase).start) found true in
    cond ((not (no_samples p) && nat_le place p.start) && sooner) (Some n) found

abbrev pub first_from : ℕ → List Phrase → Option ℕ
first_from place ps = first_below place ps 8

-- n words moved down from one place to another
unfoldable pub moved_down : ℕ → ℕ → ℕ → List ℕ → List ℕ
moved_down from to n m = take to m ++ (take n (drop from m) ++ drop (to + n) m)

-- the phrases and the memory, where the next is looked for, and where it goes
pub record Gathering : Type 0 where
  pub phrases : List Phrase
  pub memory : List ℕ
  pub from : ℕ
  pub to : ℕ

-- the k-th goes down
unfoldable pub gather_phrase : ℕ → Gathering → Gathering
gather_phrase k g =
    let p = get_or g.phrases k no_phrase in
    let r = room_of p (length g.memory) in
    let n = r.to - r.from in
    record {
      phrases = slice_set g.phrases k (record { start = g.to; length = p.length });
      memory = moved_down r.from g.to n g.memory;
      from = r.to;
      to = g.to + n;
    }

-- the next goes down, if there is one
unfoldable pub gather_next : Gathering → Gathering
gather_next g = option_map_or (λ k. gather_phrase k g) (first_from g.from g.phrases) g

unfoldable pub gather_turns : ℕ → Gathering → Gathering
gather_turns zero g = g
gather_turns (suc n) g = gather_turns n (gather_next g)

-- all of them, in the order of their places
unfoldable pub gathering_of : List Phrase → List ℕ → Gathering
gathering_of ps m = gather_turns 8 (record { phrases = ps; memory = m; from = 0; to = 0 })

-- ---- how many samples there are, by which gathered phrases stand: each behind those that began before it
unfoldable pub sum_below : ℕ → (ℕ → ℕ) → ℕ
sum_below zero f = 0
sum_below (suc n) f = sum_below n f + f n

-- how many the eight have
unfoldable pub samples_of_all : List Phrase → ℕ
samples_of_all ps = sum_below 8 (λ (i : ℕ). (get_or ps i no_phrase).length)

-- those of one, if it begins before that place
unfoldable pub samples_if : ℕ → Phrase → ℕ
samples_if place p = cond (nat_lt p.start place) p.length 0

-- how many those have that begin before that place
unfoldable pub samples_before : ℕ → List Phrase → ℕ
samples_before place ps = sum_below 8 (λ (i : ℕ). samples_if place (slice_index_or ps i no_phrase))
