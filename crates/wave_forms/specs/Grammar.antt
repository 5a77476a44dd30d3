-- A WAVE file of a form that can be turned, said of the file as a whole in the words of the format's document (Microsoft's
-- "Multiple Channel Audio Data and WAVE Files"); it names nothing of the reader. `Promised.antt` holds the reader to it,
-- in both directions. Definitions only.
use Rattle.std.specs.Prelude.{◌≡◌, List, [], ◌∷◌, ◌++◌, map, ℕ, ◌+◌, ◌*◌, ◌/◌, ◌^◌, ◌≤◌, ◌<◌, length}
use Rattle.walks.specs.Each.{Each}
use Rattle.octets.specs.Octets.{little_bytes}
use Rattle.wave.specs.Fields.{number_bytes}
use Rattle.wave.specs.Grammar.{Chunk, InChunks}
use Rattle.wave_forms.specs.Values.{number_word}

-- ---- what the numbers are: WAVE_FORMAT_PCM is 1, WAVE_FORMAT_IEEE_FLOAT is 3
pub data Kind : ℕ → ℕ → Type 0 where
  whole16 : Kind 1 16
  whole24 : Kind 1 24
  whole32 : Kind 1 32
  float32 : Kind 3 32
  float64 : Kind 3 64

-- ---- wFormatTag and what stands behind wBitsPerSample: nothing, a cbSize of 0, or WAVE_FORMAT_EXTENSIBLE's 22 bytes,
-- wValidBitsPerSample, dwChannelMask and a SubFormat that is KSDATAFORMAT_SUBTYPE of the tag. Valid bits aren't above the
-- container's; the mask isn't judged
unfoldable pub sub_format : ℕ → List ℕ
sub_format tag =
    little_bytes 2 tag
    ++ (0 ∷ 0 ∷ 0 ∷ 0 ∷ 0x10 ∷ 0 ∷ 0x80 ∷ 0 ∷ 0 ∷ 0xAA ∷ 0 ∷ 0x38 ∷ 0x9B ∷ 0x71 ∷ [])

pub data Tail (tag bits : ℕ) : ℕ → List ℕ → Type 0 where
  plain : Tail tag bits tag []
  empty : Tail tag bits tag (little_bytes 2 0)
  extensible : (valid mask : ℕ) → valid ≤ bits → mask < 2 ^ 32
      → Tail tag bits 0xFFFE (little_bytes 2 22 ++ little_bytes 2 valid ++ little_bytes 4 mask ++ sub_format tag)

-- wFormatTag, nChannels, nSamplesPerSec, nAvgBytesPerSec, nBlockAlign, wBitsPerSample
unfoldable pub body_of : ℕ → ℕ → ℕ → ℕ → ℕ → ℕ → List ℕ → List ℕ
body_of field channels rate byte_rate block bits tail =
    little_bytes 2 field ++ little_bytes 2 channels ++ little_bytes 4 rate ++ little_bytes 4 byte_rate
    ++ little_bytes 2 block ++ little_bytes 2 bits ++ tail

-- ---- the file: its rate, channels, and the numbers of all channels, frame by frame, of so many bits each
pub record IsForm (f : List ℕ) (rate channels tag bits : ℕ) (numbers : List ℕ) : Type 0 where
  pub format : Chunk
  pub sound : Chunk
  pub facts : List Chunk
  pub framed : InChunks f format sound facts
  -- "nBlockAlign: nChannels * wBitsPerSample / 8". Bytes a second aren't judged, nor what `fact` says
  pub kind : Kind tag bits
  pub field : ℕ
  pub tail : List ℕ
  pub tailed : Tail tag bits field tail
  pub byte_rate : ℕ
  pub format_body : format.body ≡ body_of field channels rate byte_rate (channels * (bits / 8)) bits tail
  pub byte_rate_fits : byte_rate < 2 ^ 32
  pub rate_fits : rate < 2 ^ 32
  pub some_channel : 1 ≤ channels
  -- whole frames
  pub samples : ℕ
  pub whole_frames : length numbers ≡ channels * samples
  pub sound_body : sound.body ≡ number_bytes (bits / 8) numbers
  pub numbers_fit : Each (λ (n : ℕ). n < 256 ^ (bits / 8)) numbers
  -- the sizes have room in the fields of a file with four bytes a number
  pub channels_fit : 4 * channels < 2 ^ 16
  pub block_fits : channels * (bits / 8) < 2 ^ 16
  pub size_fits : 50 + 4 * (channels * samples) < 2 ^ 32

-- the words that it is turned into
abbrev pub words_of_file : ℕ → ℕ → List ℕ → List ℕ
words_of_file tag bits numbers = map (number_word tag bits) numbers
