-- A good Standard MIDI File 1.0 of format 1, by the grammar of `song_grammar`: "a format 1 file has a header chunk
-- followed by one or more MTrk chunks", with alien chunks anywhere between. Definitions only.
use Rattle.std.specs.Prelude.{List, [], ◌∷◌, ◌++◌, ℕ, ◌<◌, length}
use Rattle.octets.specs.Octets.{number_of}
use Rattle.smf.specs.Promised.{Timed}
use Rattle.song_grammar.specs.Grammar.{Track, Chunk, MThd, MTrk, Aliens}

-- the ticks of a quarter note, with bit 15 clear, and the number of tracks, at least one
pub data Heading : List ℕ → ℕ → ℕ → Type 0 where
  heading : {m n high low : ℕ} {more bytes : List ℕ} → 0 < number_of (m ∷ n ∷ []) → high < 0x80
      → 0 < number_of (high ∷ low ∷ []) → Chunk MThd (0 ∷ 1 ∷ m ∷ n ∷ high ∷ low ∷ more) bytes
      → Heading bytes (number_of (high ∷ low ∷ [])) (number_of (m ∷ n ∷ []))

-- the chunks behind it, and the events of each track
pub data Tracks : List ℕ → List (List Timed) → Type 0 where
  none : {bytes : List ℕ} → Aliens bytes → Tracks bytes []
  track : {before body chunk rest : List ℕ} {ts : List Timed} {tss : List (List Timed)}
      → Aliens before → Chunk MTrk body chunk → Track 0 body ts → Tracks rest tss
      → Tracks (before ++ (chunk ++ rest)) (ts ∷ tss)

pub data ManyTracks : List ℕ → ℕ → List (List Timed) → Type 0 where
  songs : {head bytes : List ℕ} {division : ℕ} {tss : List (List Timed)}
      → Heading head division (length tss) → Tracks bytes tss → ManyTracks (head ++ bytes) division tss
