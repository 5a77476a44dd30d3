-- What the writer writes: "a RIFF WAVE file with 32-bit float samples: `RIFF`, `WAVE`, `fmt ` of 18 bytes with tag 3,
-- `fact`, `data`, 58 bytes before the first sample" (request 10/12). Definitions only.
use Rattle.std.specs.Prelude.{Bool, cond, ◌&&◌, List, ◌++◌, ℕ, ◌+◌, ◌*◌, ◌%◌, ◌^◌, ltb, leb, length}
use Rattle.std.proofs.lemmas.List.Edits.{sets}
use Rattle.octets.specs.Octets.{little_bytes}
use Rattle.wave.specs.Fields.{riff_id, wave_id, format_id, fact_id, data_id, word_bytes}

-- the body of `fmt `: tag 3 (floats), channels, rate, bytes a second, bytes a frame, bits a sample, bytes that follow
unfoldable pub format_of : ℕ → ℕ → ℕ → List ℕ
format_of channels rate byte_rate =
    little_bytes 2 3 ++ little_bytes 2 channels ++ little_bytes 4 rate ++ little_bytes 4 byte_rate
    ++ little_bytes 2 (4 * channels) ++ little_bytes 2 32 ++ little_bytes 2 0

-- the rows of a header, for so many bytes of data
unfoldable pub riff_row : ℕ → List ℕ
riff_row bytes = little_bytes 4 riff_id ++ little_bytes 4 (50 + bytes) ++ little_bytes 4 wave_id

-- bytes a second are taken mod 2 ^ 32
unfoldable pub format_row : ℕ → ℕ → List ℕ
format_row rate channels =
    little_bytes 4 format_id ++ little_bytes 4 18 ++ format_of channels rate (4 * channels * rate % 2 ^ 32)

-- `fact` counts the samples a channel
unfoldable pub fact_row : ℕ → List ℕ
fact_row samples = little_bytes 4 fact_id ++ little_bytes 4 4 ++ little_bytes 4 samples

unfoldable pub data_row : ℕ → List ℕ
data_row bytes = little_bytes 4 data_id ++ little_bytes 4 bytes

-- the 58 bytes before the first sample
unfoldable pub header_of : ℕ → ℕ → ℕ → List ℕ
header_of rate channels samples =
    riff_row (4 * (channels * samples)) ++ format_row rate channels ++ fact_row samples
    ++ data_row (4 * (channels * samples))

-- the words of all channels, frame by frame, are those behind it
abbrev pub file_of : ℕ → ℕ → ℕ → List ℕ → List ℕ
file_of rate channels samples words = header_of rate channels samples ++ word_bytes words

-- ---- its parts, stored where they have room

unfoldable pub head_fits : ℕ → ℕ → ℕ → Bool
head_fits channels samples room =
    leb channels 0x3fff && (ltb (50 + 4 * (channels * samples)) (2 ^ 32) && leb 58 room)

unfoldable pub head_put : List ℕ → ℕ → ℕ → ℕ → List ℕ
head_put out rate channels samples =
    cond (head_fits channels samples (length out)) (sets out 0 (header_of rate channels samples)) out

unfoldable pub word_put : List ℕ → ℕ → ℕ → List ℕ
word_put out at word = cond (leb (at + 4) (length out)) (sets out at (little_bytes 4 word)) out
