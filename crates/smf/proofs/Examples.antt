-- Files at each edge of the rules, computed: each number where it is given, and its neighbour that is accepted. Assumes nothing.
use Rattle.std.specs.Prelude.{Result, Ok, Err}
use mathlib.Core.Path.{◌≡◌, refl}
use mathlib.Core.Bool.{true, false}
use mathlib.Core.List.{List, [], ◌∷◌, ◌++◌, map}
use Prim.Native.Nat.{ℕ, ◌^◌}
use Prim.Native.String.{String}
use lib.ListN.{length}
use lib.Ieee.{div, of_int, of_bits}
use Rattle.octets.specs.Octets.{number_after, number_of as number}
use Rattle.octets.proofs.Hex.{digits_of, pairs, from_hex}
use Rattle.smf.specs.Faults.{fault_at, refusal_of}
use Rattle.smf.specs.Fields.{two_at, three_at, four_at, quantity_from}
use Rattle.smf.specs.Events.{data_at, is_one_byte, message_of, channel_event, sysex_at, tempo_of, meta_of, meta_at, status_of, event_at, step_at}
use Rattle.smf.specs.Files.{fields_of, header_of, chunk_at, track_from, track_at, rest_at, behind_track, events_on, events_from, track_of, events_of}
use Rattle.smf.specs.Times.{frame_at}
use Rattle.smf.specs.Cues.{event_entries, tempo_after, too_late, song_from, song_of, count_closed, numbers_of, counted_judged, list_of, cues_number, cue_of}
use Rattle.smf.specs.declared.faults.Reason.{Reason}
use Rattle.smf.specs.declared.faults.Reason.TheVariants.{Missing, NoHeader, ShortHeader, OtherFormat, OtherTrackCount, SmpteDivision, NoDivision, SecondHeader, SecondTrack, NoTrack, NoEndOfTrack, BehindEndOfTrack, LongQuantity, NoRunningStatus, SystemStatus, NoDataByte, NoMetaType, ShortTempo, LateFrame}
use Rattle.smf.specs.declared.SongRefusal.{SongRefusal}
use Rattle.smf.specs.declared.SongRefusal.TheVariants.{BadRate, Faulty, Short}

-- whatever an answer computes by
unfoldable pub computing : Unit {0}
unfolding from_hex pairs digits_of number number_after refusal_of two_at three_at four_at quantity_from data_at is_one_byte message_of channel_event sysex_at tempo_of meta_of meta_at status_of event_at step_at fields_of header_of chunk_at track_from track_at rest_at behind_track events_on events_from track_of events_of frame_at event_entries tempo_after too_late song_from song_of count_closed numbers_of counted_judged list_of cues_number cue_of div of_int of_bits
computing = tt

-- ---- files
-- a header of 96 ticks a quarter note, and the length of a track of less than 256 bytes
abbrev header : List ℕ
header = from_hex "4D546864 00000006 0000 0001 0060"

abbrev track : String → List ℕ
track events = from_hex "4D54726B 000000" ++ (length (from_hex events) ∷ []) ++ from_hex events

abbrev song : String → List ℕ
song events = header ++ track events

-- End of Track alone
abbrev none : List ℕ
none = track "00 FF2F00"

record Row : Type 0 where
  file : List ℕ
  answer : Result ℕ SongRefusal

row : List ℕ → Result ℕ SongRefusal → Row
row f a = record { file = f; answer = a }

-- at 48,000 frames a second, with room for four starts and stops
abbrev holds : List Row → Type 0
holds rows = map (λ (r : Row). counted_judged r.file 48000 8) rows ≡ map (λ (r : Row). r.answer) rows

abbrev fault : Reason → ℕ → Result ℕ SongRefusal
fault why at = Err (Faulty (fault_at why at))

-- ---- the header
headers : List Row
headers =
    row (header ++ none) (Ok 0)
    ∷ row [] (fault Missing 0)
    ∷ row (from_hex "4D5468") (fault Missing 3)
    ∷ row (from_hex "4D546865 00000006 0000 0001 0060" ++ none) (fault NoHeader 3)
    ∷ row (from_hex "4D546864 00000005 0000 0001 00" ++ none) (fault ShortHeader 7)
    ∷ row (from_hex "4D546864 00000007 0000 0001 0060 FF" ++ none) (Ok 0)
    ∷ row (from_hex "4D546864 00000006 0001 0001 0060" ++ none) (fault OtherFormat 9)
    ∷ row (from_hex "4D546864 00000006 0003 0001 0060" ++ none) (fault OtherFormat 9)
    ∷ row (from_hex "4D546864 00000006 0001") (fault OtherFormat 9)
    ∷ row (from_hex "4D546864 00000006 00") (fault Missing 9)
    ∷ row (from_hex "4D546864 00000006 0000 0000 0060" ++ none) (fault OtherTrackCount 11)
    ∷ row (from_hex "4D546864 00000006 0000 0002 0060" ++ none) (fault OtherTrackCount 11)
    ∷ row (from_hex "4D546864 00000006 0000 0001 8000" ++ none) (fault SmpteDivision 13)
    ∷ row (from_hex "4D546864 00000006 0000 0001 80") (fault Missing 13)
    ∷ row (from_hex "4D546864 00000006 0000 0001 7FFF" ++ none) (Ok 0)
    ∷ row (from_hex "4D546864 00000006 0000 0001 0000" ++ none) (fault NoDivision 13)
    ∷ row (from_hex "4D546864 00000006 0000 0001 0001" ++ none) (Ok 0)
    ∷ row (from_hex "4D546864 000000FF 0000 0001 0060" ++ none) (fault Missing 26)
    ∷ []

headers_hold : holds headers
unfolding computing headers row
headers_hold = refl

-- two faults in one header, in both orders of their numbers: the one that stands first is told
pairs_of_faults : List Row
pairs_of_faults =
    row (from_hex "4D546864 00000006 0000 0002 8000" ++ none) (fault OtherTrackCount 11)
    ∷ row (from_hex "4D546864 00000006 0001 0002 0060" ++ none) (fault OtherFormat 9)
    ∷ row (from_hex "4D546864 00000005 0001 0001 00" ++ none) (fault ShortHeader 7)
    ∷ row (from_hex "4D546864 000000FF 0000 0001 8000" ++ none) (fault SmpteDivision 13)
    ∷ row (from_hex "4D546864 000000FF 0000 0001 0000" ++ none) (fault NoDivision 13)
    ∷ row (from_hex "4D546864 000000FF 0000 0002 0060" ++ none) (fault OtherTrackCount 11)
    ∷ row (from_hex "4D546864 000000FF 0001 0001 0060" ++ none) (fault OtherFormat 9)
    ∷ []

pairs_of_faults_hold : holds pairs_of_faults
unfolding computing pairs_of_faults row
pairs_of_faults_hold = refl

-- ---- chunks: others are skipped, before the track and behind it; no track, a second one or a second header; one past the end; bytes left over
chunks : List Row
chunks =
    row (header ++ from_hex "58585858 00000002 0102" ++ none ++ from_hex "59595959 00000000") (Ok 0)
    ∷ row header (fault NoTrack 14)
    ∷ row (header ++ from_hex "58585858 00000000") (fault NoTrack 22)
    ∷ row (header ++ none ++ none) (fault SecondTrack 29)
    ∷ row (header ++ none ++ from_hex "4D546864 00000000") (fault SecondHeader 29)
    ∷ row (header ++ from_hex "4D546864 00000000" ++ none) (fault SecondHeader 17)
    ∷ row (header ++ none ++ from_hex "58585858 00000001") (fault Missing 34)
    ∷ row (header ++ none ++ from_hex "58585858 00000001 00") (Ok 0)
    ∷ row (header ++ none ++ from_hex "00") (fault Missing 27)
    ∷ row (header ++ none ++ from_hex "58585858 000000") (fault Missing 33)
    ∷ row (header ++ from_hex "4D54726B 000000") (fault Missing 21)
    ∷ []

chunks_hold : holds chunks
unfolding computing chunks row
chunks_hold = refl

-- ---- the end of the track: End of Track of any length; missing; a byte behind it; an event, or the chunk, past the end
ends : List Row
ends =
    row (song "00 FF2F02 0102") (Ok 0)
    ∷ row (song "") (fault NoEndOfTrack 22)
    ∷ row (song "00 C001") (fault NoEndOfTrack 25)
    ∷ row (song "00 FF2F00 00") (fault BehindEndOfTrack 26)
    ∷ row (header ++ from_hex "4D54726B 00000003 00 FF2F00") (fault Missing 25)
    ∷ row (header ++ from_hex "4D54726B 00000005 00 FF2F00") (fault Missing 26)
    ∷ row (header ++ from_hex "4D54726B 00000002 00 C0 01 00 FF2F00") (fault Missing 24)
    ∷ []

ends_hold : holds ends
unfolding computing ends row
ends_hold = refl

-- ---- times: four bytes at most; padding is allowed
times : List Row
times =
    row (song "FFFFFF7F C001 00 FF2F00") (Ok 0)
    ∷ row (song "FFFFFF80 00 C001 00 FF2F00") (fault LongQuantity 25)
    ∷ row (song "FFFFFF") (fault Missing 25)
    ∷ row (song "8000 C001 00 FF2F00") (Ok 0)
    ∷ []

times_hold : holds times
unfolding computing times row
times_hold = refl

-- ---- status: running status, which a meta event and a sysex event end; none at first; F1 to F6 and F8 to FE; data bytes
statuses : List Row
statuses =
    row (song "00 903C40 01 3C00 00 FF2F00") (Ok 2)
    ∷ row (song "00 3C40 00 FF2F00") (fault NoRunningStatus 23)
    ∷ row (song "00 903C40 00 FF0100 01 3C00 00 FF2F00") (fault NoRunningStatus 31)
    ∷ row (song "00 903C40 00 FF0100 01 903C00 00 FF2F00") (Ok 2)
    ∷ row (song "00 903C40 00 F00101 01 3C00 00 FF2F00") (fault NoRunningStatus 31)
    ∷ row (song "00 903C40 00 F70101 01 3C00 00 FF2F00") (fault NoRunningStatus 31)
    ∷ row (song "00 F002FFF7 00 F703010203 00 FF2F00") (Ok 0)
    ∷ row (song "00 F10000 FF2F00") (fault SystemStatus 23)
    ∷ row (song "00 F60000 FF2F00") (fault SystemStatus 23)
    ∷ row (song "00 F80000 FF2F00") (fault SystemStatus 23)
    ∷ row (song "00 FE0000 FF2F00") (fault SystemStatus 23)
    ∷ row (song "00 908040 00 FF2F00") (fault NoDataByte 24)
    ∷ row (song "00 903C80 00 FF2F00") (fault NoDataByte 25)
    ∷ row (song "00 903C7F 00 FF2F00") (Ok 1)
    ∷ row (song "00 903C") (fault Missing 25)
    ∷ row (song "00 C07F 00 D07F 00 A07F7F 00 B07F7F 00 E07F7F 00 FF2F00") (Ok 0)
    ∷ row (song "00 CF7F 00 DF7F 00 AF7F7F 00 BF7F7F 00 EF7F7F 00 FF2F00") (Ok 0)
    ∷ row (song "00 CF7F 00 7F 00 DF7F 00 7F 00 FF2F00") (Ok 0)
    ∷ []

statuses_hold : holds statuses
unfolding computing statuses row
statuses_hold = refl

-- ---- meta events: a type from 80 up; a tempo of three bytes or more, of which three count; sizes past the end
metas : List Row
metas =
    row (song "00 FF8000 00 FF2F00") (fault NoMetaType 24)
    ∷ row (song "00 FF7F00 00 FF2F00") (Ok 0)
    ∷ row (song "00 FF51020000 00 FF2F00") (fault ShortTempo 25)
    ∷ row (song "00 FF5103000000 00 FF2F00") (Ok 0)
    ∷ row (song "00 FF510400000099 00 FF2F00") (Ok 0)
    ∷ row (song "00 FF510300") (fault Missing 27)
    ∷ row (song "00 FF7F0100") (fault NoEndOfTrack 27)
    ∷ row (song "00 FF7F0200") (fault Missing 27)
    ∷ row (song "00 FF7F") (fault Missing 25)
    ∷ row (song "00 FF") (fault Missing 24)
    ∷ row (song "00") (fault Missing 23)
    ∷ []

metas_hold : holds metas
unfolding computing metas row
metas_hold = refl

-- ---- the rate, first of all; then the file; then the list's room
abbrev two : List ℕ
two = song "00 903C40 60 3C00 00 FF2F00"

rates : counted_judged [] 0 0 ∷ counted_judged [] 192001 0 ∷ counted_judged two 1 4 ∷ counted_judged two 192000 4 ∷ [] ≡ (Err BadRate) ∷ (Err BadRate) ∷ Ok 2 ∷ Ok 2 ∷ []
unfolding computing
rates = refl

rooms : counted_judged (two ++ (0 ∷ [])) 48000 3 ∷ counted_judged two 48000 3 ∷ counted_judged two 48000 4 ∷ [] ≡ fault Missing 34 ∷ Err (Short 2) ∷ Ok 2 ∷ []
unfolding computing
rooms = refl

numbers : map cues_number ((Err BadRate) ∷ Err (Short 2) ∷ Ok 2 ∷ []) ≡ 22 ∷ 8 ∷ 0 ∷ []
unfolding computing
numbers = refl

-- of each reason
twelves : map refusal_of (Missing ∷ NoHeader ∷ ShortHeader ∷ OtherTrackCount ∷ NoDivision ∷ SecondHeader ∷ SecondTrack ∷ NoTrack ∷ NoEndOfTrack ∷ BehindEndOfTrack ∷ LongQuantity ∷ NoRunningStatus ∷ SystemStatus ∷ NoDataByte ∷ NoMetaType ∷ ShortTempo ∷ [])
    ≡ 12 ∷ 12 ∷ 12 ∷ 12 ∷ 12 ∷ 12 ∷ 12 ∷ 12 ∷ 12 ∷ 12 ∷ 12 ∷ 12 ∷ 12 ∷ 12 ∷ 12 ∷ 12 ∷ []
unfolding computing
twelves = refl

others : map cues_number (fault OtherFormat 9 ∷ fault SmpteDivision 13 ∷ fault LateFrame 30 ∷ []) ≡ 13 ∷ 13 ∷ 14 ∷ []
unfolding computing
others = refl

-- ---- the list: two numbers each, the rest kept; refused, all of it
kept : list_of two 48000 (9 ∷ 9 ∷ 9 ∷ 9 ∷ 9 ∷ []) ≡ 0 ∷ 0x403C00 ∷ 24000 ∷ 0x3C00 ∷ 9 ∷ []
unfolding computing
kept = refl

short_kept : list_of two 48000 (9 ∷ 9 ∷ 9 ∷ []) ≡ 9 ∷ 9 ∷ 9 ∷ []
unfolding computing
short_kept = refl

faulty_kept : list_of (two ++ (0 ∷ [])) 48000 (9 ∷ 9 ∷ 9 ∷ 9 ∷ []) ≡ 9 ∷ 9 ∷ 9 ∷ 9 ∷ []
unfolding computing
faulty_kept = refl

abbrev zeros : List ℕ
zeros = 0 ∷ 0 ∷ 0 ∷ 0 ∷ 0 ∷ 0 ∷ []

-- a note off is a stop whatever its velocity, and so is a note on of velocity 0; the channel is the status's last digit
keys : list_of (song "00 9F3C01 00 8F3C7F 00 9F3C00 00 FF2F00") 48000 zeros ≡ 0 ∷ 0x13C0F ∷ 0 ∷ 0x3C0F ∷ 0 ∷ 0x3C0F ∷ []
unfolding computing
keys = refl

-- ---- frames: a tick of 96 at 44,100 is 229.6875 frames, rounded down once from the start: 229, 459, 689
once : list_of (song "01 903C40 01 3C00 01 3C40 00 FF2F00") 44100 zeros ≡ 229 ∷ 0x403C00 ∷ 459 ∷ 0x3C00 ∷ 689 ∷ 0x403C00 ∷ []
unfolding computing
once = refl

-- a new tempo, 250,000, counts from its own event on: 96 ticks at the first tempo, 96 at the new one
tempos : list_of (song "60 FF510303D090 60 903C40 00 FF2F00") 48000 (0 ∷ 0 ∷ []) ≡ 36000 ∷ 0x403C00 ∷ []
unfolding computing
tempos = refl

-- at tempo 0 no time goes by
still : list_of (song "60 FF5103000000 60 903C40 00 FF2F00") 48000 (0 ∷ 0 ∷ []) ≡ 24000 ∷ 0x403C00 ∷ []
unfolding computing
still = refl

-- ---- the last frame, 2 ^ 48: 2 ^ 27 ticks twice at a tempo of 2 ^ 23, one tick a quarter note, 125,000 frames a second; then one frame more. What is
-- neither start nor stop may come later
abbrev long : String → List ℕ
long events = from_hex "4D546864 00000006 0000 0001 0001" ++ track events

last : list_of (long "00 FF5103800000 C0808000 C000 C0808000 FF5103000008 00 903C40 00 FF2F00") 125000 (0 ∷ 0 ∷ []) ≡ 2 ^ 48 ∷ 0x403C00 ∷ []
unfolding computing
last = refl

past_last : counted_judged (long "00 FF5103800000 C0808000 C000 C0808000 FF5103000008 01 903C40 00 FF2F00") 125000 2 ≡ fault LateFrame 48
unfolding computing
past_last = refl

others_later : counted_judged (long "00 FF5103800000 C0808000 C000 C0808000 FF5103000008 01 C000 00 FF2F00") 125000 2 ≡ Ok 0
unfolding computing
others_later = refl

-- a late start behind a fault isn't met, and a fault behind a late start isn't
first_fault : counted_judged (long "00 F1 00 FF5103800000 C0808000 C000 FFFFFF7F 903C40") 125000 2 ≡ fault SystemStatus 23
unfolding computing
first_fault = refl

first_late : counted_judged (long "00 FF5103FFFFFF FFFFFF7F 903C40 00 F1") 192000 2 ≡ fault LateFrame 35
unfolding computing
first_late = refl

-- ---- an entry read back: 127 is 1, 64 is 64 / 127 rounded to the nearest binary32
read_back : cue_of 7 0x7F3C0F ≡ record { frame = 7; velocity = of_bits lib.Ieee.binary32 0x3F80_0000; note = 0x3C0F; starts = true }
unfolding computing
read_back = refl

read_half : cue_of 7 0x403C0F ≡ record { frame = 7; velocity = of_bits lib.Ieee.binary32 0x3F01_0204; note = 0x3C0F; starts = true }
unfolding computing
read_half = refl

-- 9 / 127 and 104 / 127 in one division: 9 and 104 times the nearest of 1 / 127 end in other digits
read_ninth : cue_of 7 0x093C0F ≡ record { frame = 7; velocity = of_bits lib.Ieee.binary32 0x3D91_2245; note = 0x3C0F; starts = true }
unfolding computing
read_ninth = refl

read_loud : cue_of 7 0x683C0F ≡ record { frame = 7; velocity = of_bits lib.Ieee.binary32 0x3F51_A347; note = 0x3C0F; starts = true }
unfolding computing
read_loud = refl

read_stop : cue_of 7 0x3C0F ≡ record { frame = 7; velocity = of_bits lib.Ieee.binary32 0; note = 0x3C0F; starts = false }
unfolding computing
read_stop = refl
