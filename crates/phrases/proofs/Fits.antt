-- A turn of a gathering: what it takes begins where it looks or behind it, goes down, and stays within the memory. Assumes nothing.
use Rattle.std.proofs.Common.{◌≡◌, ℕ, ◌+◌, ◌-◌, ◌≤◌, Option, Some, None, length, get_or, refl, arith}
use Rattle.std.specs.Option.{option_map_or}
use Rattle.phrases.specs.Phrases.{no_phrase, room_of}
use Rattle.phrases.specs.Gathering.{Gathering, first_from, gather_phrase, gather_next}
use Rattle.phrases.specs.declared.Room.{Room}
use Rattle.phrases.proofs.Rooms.{room_inside}
use Rattle.phrases.proofs.Gathered.Firsts.{Found, first}
use Rattle.phrases.proofs.Gathered.Moved.{moved_length}

-- where it looks is within the memory, and not below where the next one goes
pub record Fits (g : Gathering) : Type 0 where
  pub down : g.to ≤ g.from
  pub inside : g.from ≤ length g.memory

module _ (g : Gathering) (fits : Fits g) where
  abbrev room : ℕ → Room
  room k = room_of (get_or g.phrases k no_phrase) (length g.memory)

  pub room_down : (k : ℕ) → g.from ≤ (get_or g.phrases k no_phrase).start → g.to ≤ (room k).from
  unfolding room_of
  room_down k behind = omega (arith, behind, fits.down, fits.inside)

  room_whole : (k : ℕ) → (room k).from + ((room k).to - (room k).from) ≤ length g.memory
  room_whole k = omega (arith, room_inside (get_or g.phrases k no_phrase) (length g.memory))

  turned_length : (k : ℕ) → g.from ≤ (get_or g.phrases k no_phrase).start → length (gather_phrase k g).memory ≡ length g.memory
  unfolding gather_phrase
  turned_length k behind = moved_length (room k).from g.to ((room k).to - (room k).from) g.memory (room_down k behind) (room_whole k)

  pub turn_length : length (gather_next g).memory ≡ length g.memory
  unfolding gather_next
  turn_length = go (first_from g.from g.phrases) (first g.from g.phrases 8)
    where
      go : (found : Option ℕ) → Found g.from g.phrases 8 found → length (option_map_or (λ k. gather_phrase k g) found g).memory ≡ length g.memory
      go None o = refl
      go (Some k) f = turned_length k f.behind

  turned-fits : (k : ℕ) → g.from ≤ (get_or g.phrases k no_phrase).start → Fits (gather_phrase k g)
  unfolding gather_phrase
  turned-fits k behind =
      let h = room_down k behind in
      let i = room_inside (get_or g.phrases k no_phrase) (length g.memory) in
      let l = moved_length (room k).from g.to ((room k).to - (room k).from) g.memory h (room_whole k) in
      record { down = omega arith; inside = omega arith }

  pub turn-fits : Fits (gather_next g)
  unfolding gather_next
  turn-fits = go (first_from g.from g.phrases) (first g.from g.phrases 8)
    where
      go : (found : Option ℕ) → Found g.from g.phrases 8 found → Fits (option_map_or (λ k. gather_phrase k g) found g)
      go None o = fits
      go (Some k) f = turned-fits k f.behind
