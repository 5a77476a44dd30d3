-- Values at which a wrong rounding would show, files at each edge of the forms, and two turned whole. Each holds by computation. Assumes nothing.
use mathlib.Core.Path.{◌≡◌, refl}
use mathlib.Core.List.{List, [], ◌∷◌, ◌++◌, map}
use Prim.Native.Nat.{ℕ, ◌+◌}
use Prim.Native.String.{String}
use lib.ListN.{length}
use lib.Ieee.{round, of_bits, to_bits}
use Rattle.octets.specs.Octets.{bytes_at, little_of, little_bytes}
use Rattle.octets.proofs.Hex.{digits_of, pairs, from_hex}
use Rattle.wave.specs.Fields.{two_at, four_at, word_bytes, listed}
use Rattle.wave.specs.Files.{format_of, riff_row, format_row, fact_row, data_row, header_of}
use Rattle.wave.specs.Reader.{padded_at, met_of, chunk_at, walk_from, walk_of, good_riff}
use Rattle.wave_forms.specs.Values.{number_word}
use Rattle.wave_forms.specs.Reader.{bare_format, sub_format_at, extensible_at, tag_at, form_at, known_form, good_form, counted_judged, judged_at, file_judged, number_at}
use Rattle.wave_forms.specs.Turns.{turn_answer, output_after}
use Rattle.wave_forms.specs.declared.Turned.{Turned}

-- ---- values

-- -32768, 32767, -1 and 0; the ends of 24 bits; of 32 bits the largest, which rounds to 1, the smallest, -1 and 1
wholes : (map (number_word 1 16) (0x8000 ∷ 0x7FFF ∷ 0xFFFF ∷ 0 ∷ []) ≡ 0xBF800000 ∷ 0x3F7FFE00 ∷ 0xB8000000 ∷ 0 ∷ [])
    × (map (number_word 1 24) (0x800000 ∷ 0x7FFFFF ∷ []) ≡ 0xBF800000 ∷ 0x3F7FFFFE ∷ [])
    × (map (number_word 1 32) (0x7FFFFFFF ∷ 0x80000000 ∷ 0xFFFFFFFF ∷ 1 ∷ []) ≡ 0x3F800000 ∷ 0xBF800000 ∷ 0xB0000000 ∷ 0x30000000 ∷ [])
unfolding number_word round to_bits
wholes = (refl, refl, refl)

-- 1, 0.1, -0, 1e-40 (a subnormal float of 32 bits), ties to the even one below and above, 1e300, NaN with a sign, -inf; the least that rounds to an infinity and the float below
-- it; half of the smallest float, and 3/4 of it
doubles : map (number_word 3 64)
    (0x3FF0000000000000 ∷ 0x3FB999999999999A ∷ 0x8000000000000000 ∷ 0x37A16C262777579C ∷ 0x3FF0000010000000 ∷ 0x3FF0000030000000 ∷ 0x7E37E43C8800759C
    ∷ 0xFFF8000000000001 ∷ 0xFFF0000000000000 ∷ 0x47EFFFFFF0000000 ∷ 0x47EFFFFFEFFFFFFF ∷ 0x3690000000000000 ∷ 0x3698000000000000 ∷ [])
    ≡ 0x3F800000 ∷ 0x3DCCCCCD ∷ 0x80000000 ∷ 0x000116C2 ∷ 0x3F800000 ∷ 0x3F800002 ∷ 0x7F800000
    ∷ 0x7FC00000 ∷ 0xFF800000 ∷ 0x7F800000 ∷ 0x7F7FFFFF ∷ 0 ∷ 1 ∷ []
unfolding number_word round of_bits to_bits
doubles = refl

-- floats of 32 bits keep their bits, NaN's too
own : map (number_word 3 32) (0x7FC00001 ∷ 0x80000000 ∷ []) ≡ 0x7FC00001 ∷ 0x80000000 ∷ []
unfolding number_word
own = refl

-- ---- files
-- whatever an answer computes by
computing : Unit {0}
unfolding from_hex pairs digits_of bytes_at little_of little_bytes two_at four_at word_bytes listed format_of riff_row format_row fact_row data_row header_of padded_at met_of chunk_at walk_from walk_of good_riff bare_format sub_format_at extensible_at tag_at form_at known_form good_form counted_judged judged_at file_judged number_at turn_answer output_after number_word round to_bits
computing = tt

-- chunks under a header of their length
abbrev wave : String → List ℕ
wave chunks = from_hex "52494646" ++ little_bytes 4 (4 + length (from_hex chunks)) ++ from_hex "57415645" ++ from_hex chunks

record Row : Type 0 where
  file : String
  room : ℕ
  answer : Turned

row : String → ℕ → ℕ → ℕ → Row
row f room number long = record { file = f; room = room; answer = record { length = long; number = number } }

abbrev holds : List Row → Type 0
holds rows = map (λ (r : Row). turn_answer (wave r.file) r.room) rows ≡ map (λ (r : Row). r.answer) rows

-- one channel at 44,100: `fmt ` of 16 bytes, of 18 and of 40; the room that is needed and one byte less; a byte that follows; 17 bytes
forms : List Row
forms =
    row "666D7420 10000000 0100 0100 44AC0000 88580100 0200 1000 64617461 04000000 0080FF7F" 66 0 66
    ∷ row "666D7420 10000000 0100 0100 44AC0000 88580100 0200 1000 64617461 04000000 0080FF7F" 65 8 66
    ∷ row "666D7420 12000000 0100 0100 44AC0000 88580100 0200 1000 0000 64617461 04000000 0080FF7F" 66 0 66
    ∷ row "666D7420 12000000 0100 0100 44AC0000 88580100 0200 1000 0100 64617461 04000000 0080FF7F" 66 17 0
    ∷ row "666D7420 11000000 0100 0100 44AC0000 88580100 0200 1000 00 00 64617461 04000000 0080FF7F" 66 17 0
    ∷ row "666D7420 28000000 FEFF 0100 44AC0000 88580100 0200 1000 1600 1000 00000000 0100000000001000800000AA00389B71 64617461 04000000 0080FF7F" 66 0 66
    ∷ row "666D7420 28000000 0100 0100 44AC0000 88580100 0200 1000 1600 1000 00000000 0100000000001000800000AA00389B71 64617461 04000000 0080FF7F" 66 17 0
    ∷ row "666D7420 28000000 FEFF 0100 44AC0000 88580100 0200 1000 1500 1000 00000000 0100000000001000800000AA00389B71 64617461 04000000 0080FF7F" 66 17 0
    ∷ row "666D7420 28000000 FEFF 0100 44AC0000 88580100 0200 1000 1600 0C00 00000000 0100000000001000800000AA00389B71 64617461 04000000 0080FF7F" 66 0 66
    ∷ row "666D7420 28000000 FEFF 0100 44AC0000 88580100 0200 1000 1600 1100 00000000 0100000000001000800000AA00389B71 64617461 04000000 0080FF7F" 66 17 0
    ∷ row "666D7420 28000000 FEFF 0100 44AC0000 88580100 0200 1000 1600 1000 00000000 0100000000001000800000AA00389B70 64617461 04000000 0080FF7F" 66 17 0
    ∷ row "666D7420 28000000 FEFF 0100 44AC0000 88580100 0200 1000 1600 1000 00000000 0300000000001000800000AA00389B71 64617461 04000000 0080FF7F" 66 17 0
    ∷ []

forms_hold : holds forms
unfolding computing forms row
forms_hold = refl

-- tags and bits; no channel; blocks; whole frames; `fact` isn't judged, but two are refused; more channels than a block has room for, and one less
edges : List Row
edges =
    row "666D7420 10000000 0100 0100 44AC0000 44AC0000 0100 0800 64617461 00000000" 99 17 0
    ∷ row "666D7420 10000000 0100 0100 44AC0000 CC040200 0300 1800 64617461 03000000 FFFF7F 00" 99 0 62
    ∷ row "666D7420 10000000 0100 0100 44AC0000 20620500 0800 4000 64617461 00000000" 99 17 0
    ∷ row "666D7420 10000000 0300 0100 44AC0000 20620500 0800 4000 64617461 08000000 000000000000F03F" 99 0 62
    ∷ row "666D7420 10000000 0300 0100 44AC0000 88580100 0200 1000 64617461 00000000" 99 17 0
    ∷ row "666D7420 10000000 0200 0100 44AC0000 88580100 0200 1000 64617461 00000000" 99 17 0
    ∷ row "666D7420 10000000 0100 0000 44AC0000 00000000 0000 1000 64617461 00000000" 99 17 0
    ∷ row "666D7420 10000000 0100 0200 44AC0000 88580100 0200 1000 64617461 00000000" 99 17 0
    ∷ row "666D7420 10000000 0100 0200 44AC0000 10B10200 0400 1000 64617461 02000000 0080" 99 17 0
    ∷ row "666D7420 10000000 0100 0100 44AC0000 88580100 0200 1000 66616374 04000000 FFFFFFFF 64617461 02000000 0080" 99 0 62
    ∷ row "666D7420 10000000 0100 0100 44AC0000 88580100 0200 1000 66616374 00000000 66616374 00000000 64617461 02000000 0080" 99 17 0
    ∷ row "666D7420 10000000 0100 FF3F 44AC0000 00000000 FE7F 1000 64617461 00000000" 99 0 58
    ∷ row "666D7420 10000000 0100 0040 44AC0000 00000000 0080 1000 64617461 00000000" 99 17 0
    ∷ []

edges_hold : holds edges
unfolding computing edges row
edges_hold = refl

-- ---- turned whole: 16 bits under 16 bytes, into an output that keeps its rest,
turned : output_after (wave "666D7420 10000000 0100 0100 44AC0000 88580100 0200 1000 64617461 08000000 0080 FF7F FFFF 0000") (little_bytes 76 0xFFFF)
    ≡ from_hex "52494646 42000000 57415645 666D7420 12000000 0300 0100 44AC0000 10B10200 0400 2000 0000 66616374 04000000 04000000 64617461 10000000 000080BF 00FE7F3F 000000B8 00000000 0000"
unfolding computing
turned = refl

-- and 24 bits of two channels in the extensible form
turned_extensible : output_after
    (wave "666D7420 28000000 FEFF 0200 80BB0000 00650400 0600 1800 1600 1800 03000000 0100000000001000800000AA00389B71 64617461 06000000 000080 FFFF7F") (little_bytes 66 0)
    ≡ from_hex "52494646 3A000000 57415645 666D7420 12000000 0300 0200 80BB0000 00DC0500 0800 2000 0000 66616374 04000000 01000000 64617461 08000000 000080BF FEFF7F3F"
unfolding computing
turned_extensible = refl
