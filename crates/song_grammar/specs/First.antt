-- What stands before the first fault of a file. By request 6/12 it is "the first fault met reading front to back, each
-- field judged at its last byte; a missing byte is 12 where it is missing": so the fault lies in a field, and all that
-- stands before this field is good by the grammar. Definitions only.
use Rattle.std.specs.Prelude.{◌≡◌, List, [], ◌∷◌, ◌++◌, ◌≢◌, ◌⊎◌, ℕ, ◌+◌, ◌^◌, ◌≤◌, ◌<◌, length, take}
use Rattle.octets.specs.Octets.{byte_at, number_of}
use Rattle.walks.specs.Each.{Each}
use Rattle.smf.specs.Cues.{Entry}
use Rattle.smf.specs.Promised.{Timed, sounds_behind}
use Rattle.song_grammar.specs.Grammar.{Track, MThd, MTrk, Header, Aliens, File}

-- the starts and stops of these events all lie early enough at a rate: at 2 ^ 48 at most
abbrev pub Early : ℕ → ℕ → List Timed → Type 0
Early rate division events = Each (λ (e : Entry). e.frame ≤ 2 ^ 48) (sounds_behind rate division [] events)

-- behind what a chunk may stand that is skipped: a header, or a whole file
pub data OpenedSong : List ℕ → Type 0 where
  begun : {bytes : List ℕ} {division : ℕ} → Header bytes division → OpenedSong bytes
  over : {bytes : List ℕ} {division : ℕ} {ts : List Timed} → File bytes division ts → OpenedSong bytes

-- Behind these bytes, which are good, a field of so many bytes is due. What is skipped, and what is an event's, is due
-- byte by byte: the bytes before it begin something that the grammar spells
pub data Due : List ℕ → ℕ → Type 0 where
  -- of the header: type, length, format, number of tracks, division, and bytes that are not known
  header_type : Due [] 4
  header_length : Due MThd 4
  format : (a b c d : ℕ) → 6 ≤ number_of (a ∷ b ∷ c ∷ d ∷ []) → Due (MThd ++ (a ∷ b ∷ c ∷ d ∷ [])) 2
  tracks : (a b c d : ℕ) → 6 ≤ number_of (a ∷ b ∷ c ∷ d ∷ []) → Due (MThd ++ (a ∷ b ∷ c ∷ d ∷ 0 ∷ 0 ∷ [])) 2
  division : (a b c d : ℕ) → 6 ≤ number_of (a ∷ b ∷ c ∷ d ∷ []) → Due (MThd ++ (a ∷ b ∷ c ∷ d ∷ 0 ∷ 0 ∷ 0 ∷ 1 ∷ [])) 2
  header_rest : (bytes rest : List ℕ) {division : ℕ} → Header (bytes ++ rest) division → Due bytes 1
  -- of a chunk that is skipped, before the track and behind it, or of one that is refused at its type
  chunk_type : {bytes others : List ℕ} → OpenedSong bytes → Aliens others → Due (bytes ++ others) 4
  chunk_length : {bytes others : List ℕ} (a b c d : ℕ) → a ∷ b ∷ c ∷ d ∷ [] ≢ MThd → a ∷ b ∷ c ∷ d ∷ [] ≢ MTrk
      → OpenedSong bytes → Aliens others → Due (bytes ++ (others ++ (a ∷ b ∷ c ∷ d ∷ []))) 4
  chunk_body : {bytes : List ℕ} (part rest : List ℕ) → OpenedSong bytes → Aliens (part ++ rest) → Due (bytes ++ part) 1
  -- of the track, whose length is judged where its events end, or where it ends
  track_length : {head others : List ℕ} {division : ℕ} → Header head division → Aliens others
      → Due (head ++ (others ++ MTrk)) 4
  event : {head others : List ℕ} {division : ℕ} {ts : List Timed} (a b c d : ℕ) (part rest : List ℕ)
      → Header head division → Aliens others → Track 0 (part ++ rest) ts
      → length part ≤ number_of (a ∷ b ∷ c ∷ d ∷ [])
      → Due (head ++ (others ++ (MTrk ++ (a ∷ b ∷ c ∷ d ∷ part)))) 1

-- a fault of a format, which ends with the byte 9, or of a division, which ends with the byte 13, with bit 15 set
abbrev pub OtherKind : List ℕ → ℕ → Type 0
OtherKind f k = ((k ≡ 9) × (10 ≤ length f)) ⊎ ((k ≡ 13) × (14 ≤ length f) × (0x80 ≤ byte_at f 12))

-- whole events stand up to the byte k, as a track would have them that ends behind it, and not all of their starts and
-- stops lie early enough at a rate
pub record Late (rate : ℕ) (f : List ℕ) (k : ℕ) : Type 0 where
  pub head : List ℕ
  pub division : ℕ
  pub opens : Header head division
  pub others : List ℕ
  pub skips : Aliens others
  pub length : List ℕ
  pub part : List ℕ
  pub events : List Timed
  pub track : Track 0 (part ++ (0 ∷ 0xFF ∷ 0x2F ∷ 0 ∷ [])) events
  pub late : Early rate division events → ⊥
  pub stands : take (k + 1) f ≡ head ++ (others ++ (MTrk ++ (length ++ part)))

-- behind good bytes a field is due, and k is its last byte, or the first of it that is missing: none stands earlier
pub record FirstFault (f : List ℕ) (k : ℕ) : Type 0 where
  pub start : ℕ
  pub width : ℕ
  pub due : Due (take start f) width
  pub place : (k + 1 ≡ start + width) ⊎ ((k ≡ length f) × (start ≤ k) × (k < start + width))
