-- What request 10/12 asks of files, said of the definitions that the crate's functions are proved to equal.
-- `proofs/Promised: promised` proves it.
use Rattle.std.specs.Prelude.{◌≡◌, true, false, List, ◌⊎◌, ℕ, ◌+◌, ◌*◌, ◌^◌, ◌≤◌, ◌<◌, length, take, drop, get_or}
use Rattle.walks.specs.Each.{Each}
use Rattle.octets.specs.Octets.{Bytes}
use Rattle.wave.specs.Fields.{four_at}
use Rattle.wave.specs.Files.{file_of}
use Rattle.wave.specs.Reader.{file_judged, judged_number, read_of, words_in}
use Rattle.wave.specs.Reader.Reading.{is}
use Rattle.wave.specs.Grammar.{IsWave}
use Rattle.wave.specs.Memory.{
  start_at,
  fits_memory,
  frame_words,
  channel_words,
  bytes_of,
  fits_file,
  written_of,
  output_after,
  layout_of,
  loads,
  loaded_of,
}
use Rattle.wave.specs.declared.Starts.{Starts}
use Rattle.wave.specs.declared.Layout.{Layout}
use Rattle.wave.specs.declared.Wave.{Wave}
use Rattle.wave.specs.declared.Judged.TheVariants.{Is}

-- sizes that have room in their fields
pub record Sized (rate channels samples : ℕ) (words : List ℕ) : Type 0 where
  pub rate_fits : rate < 2 ^ 32
  pub some_channel : 1 ≤ channels
  pub block_fits : 4 * channels < 2 ^ 16
  pub size_fits : 50 + 4 * (channels * samples) < 2 ^ 32
  pub whole_frames : length words ≡ channels * samples
  pub words_fit : Each (λ (w : ℕ). w < 2 ^ 32) words

-- the recording of channel j in a memory
abbrev pub recording_at : Starts → ℕ → ℕ → List ℕ → List ℕ
recording_at starts samples j m = take samples (drop (start_at starts j) m)

-- "8 for a short output buffer", where each size has room in its field
pub record Rows (l : Layout) (size room : ℕ) : Type 0 where
  pub short_row : fits_memory l size ≡ true → room < bytes_of l → written_of l size room ≡ 0
  pub done_row : fits_memory l size ≡ true → bytes_of l < 2 ^ 32 + 8 → bytes_of l ≤ room
      → written_of l size room ≡ bytes_of l

pub record Promised : Type 0 where
  -- "Read any such file"; "17 for a file cut short, of another form, or with sizes or a `fact` count that disagree".
  -- What is answered is a good file, and a good file is answered
  pub answered : (f : List ℕ) (rate channels : ℕ) (words : List ℕ) → Bytes f → read_of f ≡ is rate channels words
      → IsWave f rate channels words
  pub good : (f : List ℕ) (rate channels : ℕ) (words : List ℕ) → IsWave f rate channels words
      → read_of f ≡ is rate channels words
  pub numbers : (f : List ℕ) → (judged_number (file_judged f) ≡ 0) ⊎ (judged_number (file_judged f) ≡ 17)
  -- a file holds one recording
  pub one_reading : (f : List ℕ) (rate channels rate₁ channels₁ : ℕ) (words words₁ : List ℕ)
      → IsWave f rate channels words → IsWave f rate₁ channels₁ words₁
      → (rate ≡ rate₁) × (channels ≡ channels₁) × (words ≡ words₁)
  -- "Written and read back, every sample has the same bits, NaN included, and the rate .. is the same"
  pub round_trip : (rate channels samples : ℕ) (words : List ℕ) → Sized rate channels samples words
      → read_of (file_of rate channels samples words) ≡ is rate channels words
  -- "58 bytes before the first sample", and sample i of channel j at 58 + 4 * (i * channels + j)
  pub file_length : (rate channels samples : ℕ) (words : List ℕ) → Sized rate channels samples words
      → length (file_of rate channels samples words) ≡ 58 + 4 * (channels * samples)
  pub sample_at : (rate channels samples : ℕ) (words : List ℕ) → Sized rate channels samples words
      → (i j : ℕ) → i < samples → j < channels
      → four_at (file_of rate channels samples words) (58 + 4 * (i * channels + j)) ≡ get_or words (i * channels + j) 0
  pub frame_at : (l : Layout) (m : List ℕ) (i j : ℕ) → i < l.samples → j < l.channels
      → get_or (frame_words l m) (i * l.channels + j) 0 ≡ get_or m (start_at l.starts j + i) 0
  -- "Reading replaces the recording of each channel": from its start on it has its words, and no other word moves
  pub loaded_recording : (f : List ℕ) (w : Wave) (starts : Starts) (m : List ℕ) → file_judged f ≡ Is w
      → fits_memory (layout_of w starts) (length m) ≡ true → (j : ℕ) → j < w.channels
      → recording_at starts w.samples j (loaded_of f starts m)
      ≡ channel_words w.channels w.samples j (words_in f w)
  pub loaded_else : (f : List ℕ) (w : Wave) (starts : Starts) (m : List ℕ) → file_judged f ≡ Is w → (x : ℕ)
      → ((j : ℕ) → j < w.channels → (x < start_at starts j) ⊎ (start_at starts j + w.samples ≤ x))
      → get_or (loaded_of f starts m) x 0 ≡ get_or m x 0
  pub loaded_length : (f : List ℕ) (starts : Starts) (m : List ℕ) → length (loaded_of f starts m) ≡ length m
  -- what a memory's recordings were is what another's are, written and loaded, wherever they begin in it
  pub there_and_back : (rate : ℕ) (l : Layout) (starts : Starts) (m m₁ : List ℕ) → rate < 2 ^ 32
      → Each (λ (w : ℕ). w < 2 ^ 32) m → fits_memory l (length m) ≡ true → fits_file l (bytes_of l) ≡ true
      → fits_memory (record { channels = l.channels; samples = l.samples; starts = starts }) (length m₁) ≡ true
      → (j : ℕ) → j < l.channels
      → recording_at starts l.samples j
      (loaded_of (file_of rate l.channels l.samples (frame_words l m)) starts m₁)
      ≡ recording_at l.starts l.samples j m
  pub write_rows : (l : Layout) (size room : ℕ) → Rows l size room
  -- what isn't done changes nothing
  pub load_held : (f : List ℕ) (starts : Starts) (m : List ℕ) → loads f starts (length m) ≡ false
      → loaded_of f starts m ≡ m
  pub write_held : (rate : ℕ) (l : Layout) (m out : List ℕ) → written_of l (length m) (length out) ≡ 0
      → output_after rate l m out ≡ out
