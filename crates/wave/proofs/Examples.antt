-- Files at each edge of the rules, computed: what is refused, and its neighbour that is accepted; what is written and stored, byte by byte. Assumes nothing.
use mathlib.Core.Path.{◌≡◌, refl}
use mathlib.Core.Bool.{true, false}
use mathlib.Core.List.{List, [], ◌∷◌, ◌++◌, map}
use Prim.Native.Nat.{ℕ, ◌+◌, ◌^◌}
use Prim.Native.String.{String}
use lib.ListN.{length}
use Rattle.octets.specs.Octets.{bytes_at, little_of, little_bytes}
use Rattle.octets.proofs.Hex.{digits_of, pairs, from_hex}
use Rattle.wave.specs.Fields.{two_at, four_at, riff_id, wave_id, format_id, fact_id, data_id, word_bytes, listed}
use Rattle.wave.specs.Files.{format_of, riff_row, format_row, fact_row, data_row, header_of, file_of}
use Rattle.wave.specs.Reader.{padded_at, met_of, chunk_at, walk_from, walk_of, good_riff, good_format, good_fact, counted_judged, judged_at, file_judged, judged_number, Reading, read_of}
use Rattle.wave.specs.Reader.Reading.{is, refused}
use Rattle.wave.specs.Memory.{fits_memory, frame_words, stored_of, fits_file, writes, written_of, output_after, loads, loaded_of}
use Rattle.wave.specs.declared.Starts.{Starts}
use Rattle.wave.specs.declared.Layout.{Layout}

-- whatever an answer computes by
computing : Unit {0}
unfolding from_hex pairs digits_of bytes_at little_of little_bytes two_at four_at word_bytes listed format_of riff_row format_row fact_row data_row header_of padded_at met_of chunk_at walk_from walk_of good_riff good_format good_fact counted_judged judged_at file_judged judged_number read_of fits_memory frame_words stored_of fits_file writes written_of output_after loads loaded_of
computing = tt

-- the ids are their letters
letters : map (λ (n : ℕ). little_bytes 4 n) (riff_id ∷ wave_id ∷ format_id ∷ fact_id ∷ data_id ∷ [])
    ≡ map from_hex ("52494646" ∷ "57415645" ∷ "666D7420" ∷ "66616374" ∷ "64617461" ∷ [])
unfolding computing
letters = refl

-- ---- files
-- chunks under a header of their length
abbrev riff : List ℕ → List ℕ
riff chunks = from_hex "52494646" ++ little_bytes 4 (4 + length chunks) ++ from_hex "57415645" ++ chunks

abbrev wave : String → List ℕ
wave chunks = riff (from_hex chunks)

record Row : Type 0 where
  file : List ℕ
  answer : Reading

row : List ℕ → Reading → Row
row f a = record { file = f; answer = a }

abbrev holds : List Row → Type 0
holds rows = map (λ (r : Row). read_of r.file) rows ≡ map (λ (r : Row). r.answer) rows

-- one channel at 44,100, two samples: 1 and a NaN with a payload
abbrev two : Reading
two = is 44100 1 (0x3F800000 ∷ 0x7FC00001 ∷ [])

-- ---- chunks: `fact` missing, before, between and behind; others with a pad byte of any value; one `fmt `, one `data`, at most one `fact`, `fmt ` before `data`
chunks : List Row
chunks =
    row (wave "666D7420 12000000 0300 0100 44AC0000 10B10200 0400 2000 0000 66616374 04000000 02000000 64617461 08000000 0000803F 0100C07F") two
    ∷ row (wave "666D7420 12000000 0300 0100 44AC0000 10B10200 0400 2000 0000 64617461 08000000 0000803F 0100C07F") two
    ∷ row (wave "66616374 04000000 02000000 666D7420 12000000 0300 0100 44AC0000 10B10200 0400 2000 0000 64617461 08000000 0000803F 0100C07F") two
    ∷ row (wave "666D7420 12000000 0300 0100 44AC0000 10B10200 0400 2000 0000 64617461 08000000 0000803F 0100C07F 66616374 04000000 02000000") two
    ∷ row (wave "4C495354 03000000 010203 00 666D7420 12000000 0300 0100 44AC0000 10B10200 0400 2000 0000 64617461 08000000 0000803F 0100C07F 4C495354 01000000 FF FF") two
    ∷ row (wave "4C495354 03000000 010203 666D7420 12000000 0300 0100 44AC0000 10B10200 0400 2000 0000 64617461 08000000 0000803F 0100C07F") refused
    ∷ row (wave "666D7420 12000000 0300 0100 44AC0000 10B10200 0400 2000 0000 64617461 08000000 0000803F 0100C07F 4C495354 01000000 FF") refused
    ∷ row (wave "666D7420 12000000 0300 0100 44AC0000 10B10200 0400 2000 0000 64617461 08000000 0000803F 0100C07F 4C495354 02000000 FF") refused
    ∷ row (wave "64617461 08000000 0000803F 0100C07F 666D7420 12000000 0300 0100 44AC0000 10B10200 0400 2000 0000") refused
    ∷ row (wave "666D7420 12000000 0300 0100 44AC0000 10B10200 0400 2000 0000") refused
    ∷ row (wave "64617461 08000000 0000803F 0100C07F") refused
    ∷ row (wave "") refused
    ∷ row (wave "666D7420 12000000 0300 0100 44AC0000 10B10200 0400 2000 0000 666D7420 12000000 0300 0100 44AC0000 10B10200 0400 2000 0000 64617461 00000000") refused
    ∷ row (wave "666D7420 12000000 0300 0100 44AC0000 10B10200 0400 2000 0000 64617461 00000000 64617461 00000000") refused
    ∷ row (wave "666D7420 12000000 0300 0100 44AC0000 10B10200 0400 2000 0000 64617461 00000000 66616374 04000000 00000000 66616374 04000000 00000000") refused
    ∷ []

chunks_hold : holds chunks
unfolding computing chunks row
chunks_hold = refl

-- ---- sizes: 1 and 7 bytes left; the length that `RIFF` says, one less and one more; a file cut to nothing; whole frames; `fact`
abbrev good : String
good = "666D7420 12000000 0300 0200 44AC0000 20620500 0800 2000 0000 66616374 04000000 01000000 64617461 08000000 0000803F 0100C07F"

abbrev stereo : Reading
stereo = is 44100 2 (0x3F800000 ∷ 0x7FC00001 ∷ [])

sizes : List Row
sizes =
    row (wave good) stereo
    ∷ row (riff (from_hex good ++ from_hex "00")) refused
    ∷ row (riff (from_hex good ++ from_hex "4C495354 000000")) refused
    ∷ row (riff (from_hex good ++ from_hex "4C495354 00000000")) stereo
    ∷ row (wave good ++ from_hex "00") refused
    ∷ row (from_hex "52494646 39000000 57415645" ++ from_hex good) refused
    ∷ row (from_hex "52494646 3A000000 57415645" ++ from_hex good) stereo
    ∷ row (from_hex "52494646 3B000000 57415645" ++ from_hex good) refused
    ∷ row (from_hex "52494658 3A000000 57415645" ++ from_hex good) refused
    ∷ row (from_hex "52494646 3A000000 57415658" ++ from_hex good) refused
    ∷ row [] refused
    ∷ row (from_hex "52494646 00000000") refused
    ∷ row (wave "666D7420 12000000 0300 0200 44AC0000 20620500 0800 2000 0000 64617461 04000000 0000803F") refused
    ∷ row (wave "666D7420 12000000 0300 0200 44AC0000 20620500 0800 2000 0000 64617461 00000000") (is 44100 2 [])
    ∷ row (wave "666D7420 12000000 0300 0200 44AC0000 20620500 0800 2000 0000 66616374 04000000 02000000 64617461 08000000 0000803F 0100C07F") refused
    ∷ row (wave "666D7420 12000000 0300 0200 44AC0000 20620500 0800 2000 0000 66616374 04000000 00000000 64617461 08000000 0000803F 0100C07F") refused
    ∷ row (wave "666D7420 12000000 0300 0200 44AC0000 20620500 0800 2000 0000 66616374 02000000 0100 64617461 08000000 0000803F 0100C07F") refused
    ∷ row (wave "666D7420 12000000 0300 0200 44AC0000 20620500 0800 2000 0000 66616374 08000000 0100000000000000 64617461 08000000 0000803F 0100C07F") refused
    ∷ []

sizes_hold : holds sizes
unfolding computing sizes row
sizes_hold = refl

-- ---- `fmt `: 16 and 40 bytes; another tag; no channel; a wrong block; 16,384 channels, whose block wraps to 0, and 16,383; 16 bits; bytes that follow; any byte rate; rates 0 and 2 ^ 32 - 1
formats : List Row
formats =
    row (wave "666D7420 10000000 0300 0100 44AC0000 10B10200 0400 2000 64617461 00000000") refused
    ∷ row (wave "666D7420 28000000 FEFF 0100 44AC0000 10B10200 0400 2000 1600 2000 00000000 0300000000001000800000AA00389B71 64617461 00000000") refused
    ∷ row (wave "666D7420 12000000 0100 0100 44AC0000 10B10200 0400 2000 0000 64617461 00000000") refused
    ∷ row (wave "666D7420 12000000 0300 0000 44AC0000 00000000 0000 2000 0000 64617461 00000000") refused
    ∷ row (wave "666D7420 12000000 0300 0100 44AC0000 10B10200 0800 2000 0000 64617461 00000000") refused
    ∷ row (wave "666D7420 12000000 0300 0040 44AC0000 00000000 0000 2000 0000 64617461 00000000") refused
    ∷ row (wave "666D7420 12000000 0300 FF3F 44AC0000 00000000 FCFF 2000 0000 64617461 00000000") (is 44100 16383 [])
    ∷ row (wave "666D7420 12000000 0300 0100 44AC0000 10B10200 0400 1000 0000 64617461 00000000") refused
    ∷ row (wave "666D7420 12000000 0300 0100 44AC0000 10B10200 0400 2000 0100 64617461 00000000") refused
    ∷ row (wave "666D7420 12000000 0300 0100 44AC0000 12345678 0400 2000 0000 64617461 00000000") (is 44100 1 [])
    ∷ row (wave "666D7420 12000000 0300 0100 00000000 00000000 0400 2000 0000 64617461 00000000") (is 0 1 [])
    ∷ row (wave "666D7420 12000000 0300 0100 FFFFFFFF 00000000 0400 2000 0000 64617461 00000000") (is 0xFFFFFFFF 1 [])
    ∷ []

formats_hold : holds formats
unfolding computing formats row
formats_hold = refl

numbers : map (λ (f : List ℕ). judged_number (file_judged f)) (wave good ∷ wave "" ∷ []) ≡ 0 ∷ 17 ∷ []
unfolding computing
numbers = refl

-- ---- written: two channels of a memory from places 0 and 3 on, one sample each, as above
abbrev starting : ℕ → ℕ → Starts
starting first second = record { first = first; second = second }

abbrev layout : ℕ → Layout
layout samples = record { channels = 2; samples = samples; starts = starting 0 3 }

abbrev memory : List ℕ
memory = 0x3F800000 ∷ 11 ∷ 12 ∷ 0x7FC00001 ∷ 21 ∷ 22 ∷ 99 ∷ []

written : file_of 44100 2 1 (frame_words (layout 1) memory) ≡ wave good
unfolding computing
written = refl

frames : frame_words (layout 3) memory ≡ 0x3F800000 ∷ 0x7FC00001 ∷ 11 ∷ 21 ∷ 12 ∷ 22 ∷ []
unfolding computing
frames = refl

-- one channel, and two, each from a place of its own on
abbrev placed : ℕ → ℕ → ℕ → ℕ → Layout
placed channels samples first second = record { channels = channels; samples = samples; starts = starting first second }

elsewhere : map (λ (l : Layout). frame_words l memory) (placed 1 2 4 0 ∷ placed 2 2 1 5 ∷ []) ≡ (21 ∷ 22 ∷ []) ∷ (11 ∷ 22 ∷ 12 ∷ 99 ∷ []) ∷ []
unfolding computing
elsewhere = refl

empty : file_of 0 2 0 (frame_words (layout 0) memory) ≡ wave "666D7420 12000000 0300 0200 00000000 00000000 0800 2000 0000 66616374 04000000 00000000 64617461 00000000"
unfolding computing
empty = refl

-- bytes a second are 4 * channels * rate mod 2 ^ 32
rates : map (λ (rate : ℕ). four_at (header_of rate 2 0) 28) (0x20000000 ∷ 0x20000001 ∷ 0xFFFFFFFF ∷ []) ≡ 0 ∷ 8 ∷ 0xFFFFFFF8 ∷ []
unfolding computing
rates = refl

-- no room for the last byte; a longer output keeps its rest
rooms : map (λ (room : ℕ). written_of (layout 1) 7 room) (65 ∷ 66 ∷ 67 ∷ []) ≡ 0 ∷ 66 ∷ 66 ∷ []
unfolding computing
rooms = refl

kept : output_after 44100 (layout 1) memory (little_bytes 68 0xFFFF) ≡ wave good ++ from_hex "0000"
unfolding computing
kept = refl

-- a recording that meets the next one, or the memory's end, and one sample more; no channel, a third
unfit : map (λ (l : Layout). written_of l 6 (2 ^ 40)) (layout 3 ∷ layout 4 ∷ placed 2 2 0 4 ∷ placed 2 2 0 5 ∷ placed 2 2 3 4 ∷ placed 2 0 0 6 ∷ placed 2 0 0 7 ∷ placed 2 0 1 0
    ∷ placed 1 2 4 0 ∷ placed 1 2 5 0 ∷ placed 0 0 0 0 ∷ placed 3 0 0 0 ∷ []) ≡ 82 ∷ 0 ∷ 74 ∷ 0 ∷ 0 ∷ 58 ∷ 0 ∷ 0 ∷ 66 ∷ 0 ∷ 0 ∷ 0 ∷ []
unfolding computing
unfit = refl

-- the most bytes that a size has: 50 + 4 * samples is 2 ^ 32 - 2, and then 2 ^ 32 + 2
largest : map (λ (n : ℕ). written_of (placed 1 n 0 0) (2 ^ 40) (2 ^ 40)) (1073741811 ∷ 1073741812 ∷ []) ≡ 0x100000006 ∷ 0 ∷ []
unfolding computing
largest = refl

-- ---- stored: each channel's words from its start on, nothing else; what has no room isn't
abbrev song : List ℕ
song = file_of 44100 2 2 (1 ∷ 2 ∷ 3 ∷ 4 ∷ [])

stored : map (λ (s : Starts). loaded_of song s memory) (starting 0 3 ∷ starting 0 2 ∷ starting 1 5 ∷ [])
    ≡ (1 ∷ 3 ∷ 12 ∷ 2 ∷ 4 ∷ 22 ∷ 99 ∷ []) ∷ (1 ∷ 3 ∷ 2 ∷ 4 ∷ 21 ∷ 22 ∷ 99 ∷ []) ∷ (0x3F800000 ∷ 1 ∷ 3 ∷ 0x7FC00001 ∷ 21 ∷ 2 ∷ 4 ∷ []) ∷ []
unfolding computing
stored = refl

-- of one channel the second start isn't looked at
one_channel : loaded_of (file_of 44100 1 2 (1 ∷ 2 ∷ [])) (starting 5 1) memory ≡ 0x3F800000 ∷ 11 ∷ 12 ∷ 0x7FC00001 ∷ 21 ∷ 1 ∷ 2 ∷ []
unfolding computing
one_channel = refl

no_room : loads song (starting 0 1) 7 ∷ loads song (starting 0 2) 3 ∷ loads song (starting 0 2) 4 ∷ loads song (starting 2 0) 7 ∷ loads (file_of 44100 3 0 []) (starting 0 0) 7 ∷ loads [] (starting 0 2) 4 ∷ []
    ≡ false ∷ false ∷ true ∷ false ∷ false ∷ false ∷ []
unfolding computing
no_room = refl

no_room_kept : loaded_of song (starting 0 1) memory ≡ memory
unfolding computing
no_room_kept = refl
