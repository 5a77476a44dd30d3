-- A good WAVE file, said of the file as a whole in the words of request 10/12 and of its decisions; it names nothing of
-- the reader. `Promised.antt` holds the reader to it, in both directions. Definitions only.
use Rattle.std.specs.Prelude.{◌≡◌, List, [], ◌∷◌, ◌++◌, ◌⊎◌, ℕ, ◌+◌, ◌*◌, ◌%◌, ◌^◌, ◌≤◌, ◌<◌, length}
use Rattle.walks.specs.Each.{Each}
use Rattle.octets.specs.Octets.{little_bytes}
use Rattle.wave.specs.Fields.{riff_id, wave_id, format_id, fact_id, data_id, word_bytes}
use Rattle.wave.specs.Files.{format_of}

-- ---- chunks, "each 8 + size + size mod 2": an id, a size, so many bytes, and a pad byte behind an odd number of them
pub record Chunk : Type 0 where
  pub id : ℕ
  pub body : List ℕ
  pub pad : List ℕ

pub record WholeChunk (c : Chunk) : Type 0 where
  pub named : c.id < 2 ^ 32
  pub sized : length c.body < 2 ^ 32
  pub padded : length c.pad ≡ length c.body % 2

unfoldable pub chunk_bytes : Chunk → List ℕ
chunk_bytes c = little_bytes 4 c.id ++ little_bytes 4 (length c.body) ++ c.body ++ c.pad

-- bytes that whole chunks "tile exactly". The first list has those of `fmt ` and `data`, the second those of `fact`, in
-- their order; the others are "unknown chunks anywhere"
pub data Chunks : List ℕ → List Chunk → List Chunk → Type 0 where
  none : Chunks [] [] []
  main : (c : Chunk) {f : List ℕ} {mains facts : List Chunk} → WholeChunk c → (c.id ≡ format_id) ⊎ (c.id ≡ data_id)
      → Chunks f mains facts → Chunks (chunk_bytes c ++ f) (c ∷ mains) facts
  fact : (c : Chunk) {f : List ℕ} {mains facts : List Chunk} → WholeChunk c → c.id ≡ fact_id
      → Chunks f mains facts → Chunks (chunk_bytes c ++ f) mains (c ∷ facts)
  other : (c : Chunk) {f : List ℕ} {mains facts : List Chunk} → WholeChunk c
      → (c.id ≡ format_id → ⊥) → (c.id ≡ data_id → ⊥) → (c.id ≡ fact_id → ⊥)
      → Chunks f mains facts → Chunks (chunk_bytes c ++ f) mains facts

-- ---- what a file of any form has in common: its chunks, with one `fmt `, one `data` behind it, and at most one `fact`
pub record InChunks (f : List ℕ) (format sound : Chunk) (facts : List Chunk) : Type 0 where
  pub chunks : List ℕ
  pub riff : f ≡ little_bytes 4 riff_id ++ little_bytes 4 (4 + length chunks) ++ little_bytes 4 wave_id ++ chunks
  pub riff_size : 4 + length chunks < 2 ^ 32
  pub tiled : Chunks chunks (format ∷ sound ∷ []) facts
  pub format_first : format.id ≡ format_id
  pub sound_second : sound.id ≡ data_id
  pub one_fact : length facts ≤ 1

-- ---- the file: a rate, a number of channels, and the words of all channels, frame by frame
pub record IsWave (f : List ℕ) (rate channels : ℕ) (words : List ℕ) : Type 0 where
  -- "length = 8 + RIFF size, `RIFF`, `WAVE`"
  pub chunks : List ℕ
  pub riff : f ≡ little_bytes 4 riff_id ++ little_bytes 4 (4 + length chunks) ++ little_bytes 4 wave_id ++ chunks
  pub riff_size : 4 + length chunks < 2 ^ 32
  -- "one `fmt `, one `data`, at most one `fact`; `fmt ` before `data`"
  pub format : Chunk
  pub sound : Chunk
  pub facts : List Chunk
  pub tiled : Chunks chunks (format ∷ sound ∷ []) facts
  pub format_first : format.id ≡ format_id
  pub sound_second : sound.id ≡ data_id
  pub one_fact : length facts ≤ 1
  -- "size 18, tag 3, channels ≥ 1, block = 4 * channels compared unwrapped, bits 32, extra 0. Byte rate isn't judged"
  pub byte_rate : ℕ
  pub format_body : format.body ≡ format_of channels rate byte_rate
  pub byte_rate_fits : byte_rate < 2 ^ 32
  pub rate_fits : rate < 2 ^ 32
  pub some_channel : 1 ≤ channels
  pub block_fits : 4 * channels < 2 ^ 16
  -- "data size a multiple of block; `fact` of size 4 with the count of samples a channel"
  pub samples : ℕ
  pub whole_frames : length words ≡ channels * samples
  pub sound_body : sound.body ≡ word_bytes words
  pub words_fit : Each (λ (w : ℕ). w < 2 ^ 32) words
  pub fact_body : Each (λ (c : Chunk). c.body ≡ little_bytes 4 samples) facts
