-- Document 01's event listing as bytes, with the version 2 of document 02's 4/12: which header and which record is good,
-- and what call a good record is. A record is the list of its bytes from its two-byte length on, or as many of them as
-- there are. Definitions only.
use Rattle.std.specs.Prelude.{ℕ, ◌+◌, ◌*◌, Bool, not, cond, Option, Some, None, ◌&&◌, ◌||◌, List, [], ◌∷◌, eqb, leb, length, get_or, Float}
use Rattle.binary32.specs.Leaves.{float_of}
use Rattle.octets.specs.Octets.{byte_at}
use Rattle.common_types.specs.Modes.{loop_mode_from_index_of, note_off_from_index_of}
use Rattle.common_types.specs.Notes.{note_of}
use Rattle.common_types.specs.declared.Note.{Note}
use Rattle.common_types.specs.declared.Params.{Params}
use Rattle.common_types.specs.declared.Transport.{Transport}
use Rattle.common_types.specs.declared.LoopMode.{LoopMode}
use Rattle.common_types.specs.declared.LoopMode.TheVariants.{PingPong}
use Rattle.std.specs.Prelude.{Ok, Err}
use Rattle.common_types.specs.declared.NoteOffBehaviour.{NoteOffBehaviour}
use Rattle.common_types.specs.declared.NoteOffBehaviour.TheVariants.{DecayAndZeroCrossing}
use Rattle.common_types.specs.declared.time_value.TimeValue.TheVariants.{QuarterNotes, Samples, Seconds, Bars}
use Rattle.common_types.specs.declared.time_value.TimeOrRatio.{TimeOrRatio}
use Rattle.common_types.specs.declared.time_value.TimeOrRatio.TheVariants.{Time, Ratio, WholeBars}
use Rattle.listing.specs.declared.records.Header.{Header}
use Rattle.listing.specs.declared.records.Call.{Call}
use Rattle.listing.specs.declared.records.Call.TheVariants.{
  Parameters,
  Start,
  Stop,
  Speed,
  StartRecording,
  StopRecording,
  Mono,
  Stereo,
  Reset,
}

-- ---- fields: numbers big-endian, floats by their bits; a byte that isn't there is 0
unfoldable pub half_at : List ℕ → ℕ → ℕ
half_at r i = byte_at r i * 256 + byte_at r (i + 1)

unfoldable pub word_at : List ℕ → ℕ → ℕ
word_at r i = half_at r i * 65536 + half_at r (i + 2)

unfoldable pub float_at : List ℕ → ℕ → Float
float_at r i = float_of (word_at r i)

-- ---- the header: version 1 or 2, 1 or 2 channels, auto pass-through 0 or 1
abbrev pub channel_count : Header → ℕ
channel_count h = cond h.stereo 2 1

unfoldable pub good_header : List ℕ → Bool
good_header b = eqb (length b) 3 && (eqb (byte_at b 0) 1 || eqb (byte_at b 0) 2)
    && (eqb (byte_at b 1) 1 || eqb (byte_at b 1) 2) && leb (byte_at b 2) 1

unfoldable pub header_of : List ℕ → Option Header
header_of b = cond (good_header b)
    (Some (record { second = eqb (byte_at b 0) 2; stereo = eqb (byte_at b 1) 2; auto_passthru = eqb (byte_at b 2) 1 }))
    None

-- ---- a record's kind stands after its length
abbrev pub kind_of : List ℕ → ℕ
kind_of r = byte_at r 2

-- how many bytes each kind has, its own among them, where a frame has so many
abbrev pub lengths : ℕ → List ℕ
lengths frame = 45 ∷ 11 ∷ 3 ∷ 7 ∷ 1 ∷ 1 ∷ frame ∷ 1 ∷ []

-- a frame has a float a channel; a kind that isn't named has no byte
unfoldable pub kind_length : Header → ℕ → ℕ
kind_length h kind = get_or (lengths (1 + 4 * channel_count h)) kind 0

-- how many bytes to read after the two of the length: no kind has more than 45
unfoldable pub to_read : List ℕ → ℕ
to_read b = cond (eqb (length b) 2 && leb (half_at b 0) 45) (half_at b 0) 0

-- length kind 5 is of version 2 alone
abbrev pub last_length_kind : Header → ℕ
last_length_kind h = cond h.second 5 4

-- kind 0: pass-through is 0 or 1, loop mode, length kind and note_off mode are among those named
unfoldable pub good_settings : Header → List ℕ → Bool
good_settings h r = leb (byte_at r 11) 1 && leb (byte_at r 12) 2 && leb (byte_at r 13) (last_length_kind h)
    && leb (byte_at r 26) 2

-- all the bytes are there, they are as many as the kind has, and each mode is one that there is
unfoldable pub good_record : Header → List ℕ → Bool
good_record h r =
    eqb (length r) (half_at r 0 + 2) && eqb (half_at r 0) (kind_length h (kind_of r))
    && (not (eqb (kind_of r) 0) || good_settings h r)

-- ---- the call of a good record
abbrev pub note_at : List ℕ → Note
note_at r = note_of (byte_at r 3) (byte_at r 4)

-- the modes by their index, as the engine numbers them; for one that it refuses, the last
unfoldable pub loop_mode_of : ℕ → LoopMode
loop_mode_of index = elim (loop_mode_from_index_of index) [ Ok mode ↦ mode | Err refusal ↦ PingPong ]

unfoldable pub note_off_of : ℕ → NoteOffBehaviour
note_off_of index = elim
    (note_off_from_index_of index) [ Ok behaviour ↦ behaviour | Err refusal ↦ DecayAndZeroCrossing ]

-- length kinds 0 to 4; 5 is whole bars
abbrev pub first_lengths : Float → List TimeOrRatio
first_lengths x = Time (QuarterNotes x) ∷ Time (Samples x) ∷ Time (Seconds x) ∷ Time (Bars x) ∷ Ratio x ∷ []

unfoldable pub length_by_kind : ℕ → Float → TimeOrRatio
length_by_kind kind x = get_or (first_lengths x) kind (WholeBars x)

unfoldable pub transport_of : List ℕ → Transport
transport_of r = record {
  sample_rate = float_at r 31;
  tempo = float_at r 35;
  time_sig_numerator = word_at r 39;
  time_sig_denominator = word_at r 43;
}

unfoldable pub params_of : List ℕ → Params
params_of r = record {
  attack_samples = word_at r 3;
  decay_samples = word_at r 7;
  transport = transport_of r;
  loop_length = length_by_kind (byte_at r 13) (float_at r 14);
  speed = float_at r 18;
  reverse_speed = float_at r 22;
  volume = float_at r 27;
  auto_passthru = eqb (byte_at r 11) 1;
  loop_mode = loop_mode_of (byte_at r 12);
  note_off_behavior = note_off_of (byte_at r 26);
}

unfoldable pub frame_call_of : Header → List ℕ → Call
frame_call_of h r = cond h.stereo (Stereo (float_at r 3) (float_at r 7)) (Mono (float_at r 3))

-- the calls of kinds 0 to 6
abbrev pub calls : Header → List ℕ → List Call
calls h r =
    Parameters (params_of r)
    ∷ Start (note_at r) (float_at r 5) (float_at r 9)
    ∷ Stop (note_at r)
    ∷ Speed (note_at r) (float_at r 5)
    ∷ StartRecording
    ∷ StopRecording
    ∷ frame_call_of h r
    ∷ []

unfoldable pub call_of : Header → List ℕ → Call
call_of h r = get_or (calls h r) (kind_of r) Reset

unfoldable pub record_of : Header → List ℕ → Option Call
record_of h r = cond (good_record h r) (Some (call_of h r)) None
