-- Document 01's example, computed from its bytes to its lines; and listings at each edge of what is good. Assumes nothing.
use Rattle.std.specs.Prelude.{Some}
use mathlib.Core.Path.{◌≡◌, refl}
use mathlib.Core.Bool.{true, false, cond}
use mathlib.Core.List.{List, [], ◌∷◌, ◌++◌, map}
use Prim.Native.Nat.{ℕ, ◌+◌, ◌-◌, ◌*◌}
use Prim.Native.String.{String}
use lib.IntN.{negsuc}
use lib.Dec.{ltb, eqb}
use lib.Ieee.{Float, fin, add, sub, mul, div, rem, neg, lt, le, eq, of_int, to_unsigned, is_nan, of_bits, to_bits, nan_bits, of_fields}
use Rattle.binary32.specs.Leaves.{as_float, floor_of, min_of, max_of, crossing_of}
use Rattle.std.specs.List.{list_any, list_all, fold}
use Rattle.walks.specs.Walks.{without}
use Rattle.common_types.specs.declared.LoopMode.TheVariants.{PingPong}
use Rattle.common_types.specs.declared.NoteOffBehaviour.TheVariants.{ZeroCrossing}
use Rattle.common_types.specs.declared.time_value.TimeOrRatio.TheVariants.{Time, Ratio, WholeBars}
use Rattle.common_types.specs.declared.time_value.TimeValue.TheVariants.{QuarterNotes, Samples, Seconds, Bars}
use Rattle.common_types.specs.Times.{quarter_notes_per_bar_of, samples_per_quarter_note_of, samples_per_bar_of, as_samples_of}
use Rattle.common_types.specs.Settings.{speed_of, time_length_of, length_of, loop_length_of, length_beyond, beyond_limits}
use Rattle.volume.specs.Levels.{progress_of, level_of, toward_of, stepped_of, good_ramp, good_volume}
use Rattle.recorder.specs.Recording.{raised, in_state, misused_of, skipped_of, start_of, stop_of, is_recording_of, recorded_of, data_after, good_recorder}
use Rattle.clip.specs.Positions.{position_of, one_further, next_at, lead_of, travel_at, looped_of, round_trip_of, mirrored_of, bounced_of, wrapped_of, placed_of, clip_offset_at, clip_to_data_of, offset_at, index_at}
use Rattle.clip.specs.Updates.{made_of, back_of, found_at, reversing_at, shift_for, settled_of, with_speed, with_mode, with_length, with_data_length}
use Rattle.clip.specs.Refusals.{good_length, good_clip}
use Rattle.phrases.specs.Phrases.{no_samples, is_over_by, reach_of, stored_in, room_of, others_of, beside_with, beside_of}
use Rattle.voice.specs.Voices.{span_of, tick_of, late_of, over_of, should_remove_of, moved_of, between_of, value_of, product_of, sounded_of, finish_of, played_out_of, ended_of, volume_stepped, turn_of, fresh_of, blank_voice, at_speed_of, good_voice}
use Rattle.channel.specs.Heads.{phrase_by, begins_at, written_in, next_time, head_of, phrase_after, recorder_after, interpolates_after, chosen_after, head_changed_of, ramp_of, passthru_of, closed_of, good_head}
use Rattle.channel.specs.Tables.{good_table, table_after, several_after, head_names, found_by, head_asks, asks_of, leaving_of, blocked_by, short_by}
use Rattle.channel.specs.Channels.{channel_of, reset_of, uses_of, head_changed_in, any_unfinished_of, handled_of, pushed_of, start_playing_of, wanted_of, find_of, finished_at_of, stop_playing_of, sped_of, set_note_speed_of, kept_of, added_of, heard_sum, played_of, turning_by, resting, turning_at, turning_of, turning_in, taken_of, memory_of, process_sample_of, changed_of, good_voices_of, good_channel}
use Rattle.sampler.specs.Refusals.{good_sizes, good_sampler, capacity_of, good_with, against_any, set_up_judged, start_rows, stop_rows, speed_rows, frame_judged}
use Rattle.sampler.specs.Samplers.{set_up_of, each_of, answer_of, part_of, played_at, channel_stepped_of as stepped_at, output_of, memory_at, entry_of, entries_of, framed_of}
use Rattle.decimal.specs.Decimal.{digits, decimal}
use Rattle.decimal.specs.Lines.{bytes, line_of, text_of}
use Rattle.listing.specs.Lines.{hex_digit, hex_digits, output_text, outputs_of, answer_line, frame_line, bad_line, newline}
use Rattle.listing.specs.Records.{half_at, word_at, float_at, good_header, header_of, kind_length, to_read, good_settings, good_record, loop_mode_of, note_off_of, length_by_kind, transport_of, params_of, frame_call_of, call_of, record_of}
use Rattle.listing.specs.Steps.{clock_of, voices_of, answer_played, settings_of, frame_of, call_played, memory_after, player_of, later_by, opened_of, record_step, step_memory}
use Rattle.listing.specs.Whole.{printed_from, printed}
use Rattle.listing.specs.declared.records.Header.{Header}
use Rattle.listing.specs.declared.records.Call.TheVariants.{Parameters, Start, Stop, Speed, StartRecording, StopRecording, Mono, Stereo, Reset}
use Rattle.listing.specs.Faults.{header_fault_of, settings_fault_of, kind_fault_of, record_fault_of}
use Rattle.listing.specs.declared.faults.HeaderFault.TheVariants as header
use Rattle.listing.specs.declared.faults.RecordFault.TheVariants as fault

-- ---- bytes from hexadecimal digits, among which spaces don't count
abbrev nibble : ℕ → ℕ
nibble c = cond (ltb c 58) (c - 48) (c - 55)

pairs : List ℕ → List ℕ
pairs [] = []
pairs (x ∷ []) = []
pairs (x ∷ y ∷ digits) = (nibble x * 16 + nibble y) ∷ pairs digits

from_hex : String → List ℕ
from_hex s = pairs (without (eqb 32) (bytes s))

-- ---- lines
text : List String → List ℕ
text [] = []
text (line ∷ lines) = bytes line ++ newline ++ text lines

-- whatever a listing computes by
computing : Unit {0}
unfolding text from_hex pairs bytes line_of text_of digits decimal printed_from printed hex_digit hex_digits output_text outputs_of answer_line frame_line bad_line half_at word_at float_at good_header header_of kind_length to_read good_settings good_record loop_mode_of note_off_of length_by_kind transport_of params_of frame_call_of call_of record_of clock_of voices_of answer_played settings_of frame_of call_played memory_after player_of later_by opened_of record_step step_memory floor_of min_of max_of crossing_of without speed_of quarter_notes_per_bar_of samples_per_quarter_note_of samples_per_bar_of as_samples_of time_length_of length_of loop_length_of length_beyond beyond_limits progress_of level_of toward_of stepped_of good_ramp good_volume raised in_state misused_of skipped_of start_of stop_of is_recording_of recorded_of data_after good_recorder lead_of travel_at looped_of round_trip_of mirrored_of bounced_of wrapped_of placed_of clip_offset_at clip_to_data_of offset_at index_at made_of back_of found_at reversing_at shift_for settled_of with_speed with_mode with_length with_data_length good_length good_clip span_of tick_of late_of over_of should_remove_of moved_of position_of one_further next_at between_of value_of product_of sounded_of finish_of played_out_of ended_of volume_stepped turn_of fresh_of blank_voice at_speed_of good_voice next_time head_of ramp_of passthru_of closed_of good_head channel_of reset_of any_unfinished_of handled_of pushed_of start_playing_of wanted_of find_of finished_at_of stop_playing_of sped_of set_note_speed_of head_changed_of kept_of added_of heard_sum played_of turning_by resting turning_at turning_of turning_in no_samples is_over_by reach_of stored_in room_of others_of beside_with beside_of phrase_by begins_at written_in phrase_after recorder_after interpolates_after chosen_after good_table table_after several_after head_names found_by head_asks asks_of leaving_of blocked_by short_by uses_of head_changed_in taken_of memory_of process_sample_of changed_of good_voices_of good_channel good_sizes good_sampler capacity_of good_with against_any set_up_judged start_rows stop_rows speed_rows frame_judged set_up_of each_of answer_of part_of played_at stepped_at output_of memory_at entry_of entries_of framed_of add sub mul div rem neg lt le eq of_int to_unsigned is_nan of_bits to_bits nan_bits of_fields
computing = tt

-- ---- document 01's example
abbrev input : List ℕ
input =
    from_hex "010100"
    ++ from_hex "002D 00 00000000 00000000 00 01 04 3F800000 3F800000 3F800000 00 3F800000 472C4400 42F00000 00000004 00000004"
    ++ from_hex "0001 04"
    ++ from_hex "0005 06 3F000000"
    ++ from_hex "0005 06 3E800000"
    ++ from_hex "0001 05"
    ++ from_hex "000B 01 3C 00 00000000 3F800000"
    ++ from_hex "0005 06 00000000"
    ++ from_hex "0005 06 00000000"
    ++ from_hex "0005 06 00000000"
    ++ from_hex "0003 02 3C 00"
    ++ from_hex "0005 06 00000000"

abbrev output : List ℕ
output =
    text ("E 0 0" ∷ "E 4 0" ∷ "F 0 00000000 0" ∷ "F 1 00000000 0" ∷ "E 5 0" ∷ "E 1 0" ∷ "F 2 3F000000 1" ∷ "F 3 3E800000 1" ∷ "F 4 3F000000 1" ∷ "E 2 0" ∷ "F 5 00000000 0" ∷ [])

example : printed input ≡ output
unfolding computing
example = refl

-- ---- bad headers: none, versions 0 and 3, three channels, auto pass-through 2
no_header : printed [] ≡ text ("X 0" ∷ [])
unfolding computing
no_header = refl

version_zero : printed (from_hex "000100") ≡ text ("X 0" ∷ [])
unfolding computing
version_zero = refl

version_three : printed (from_hex "030100") ≡ text ("X 0" ∷ [])
unfolding computing
version_three = refl

three_channels : printed (from_hex "010300") ≡ text ("X 0" ∷ [])
unfolding computing
three_channels = refl

auto_two : printed (from_hex "010102") ≡ text ("X 0" ∷ [])
unfolding computing
auto_two = refl

cut_header : printed (from_hex "0101") ≡ text ("X 0" ∷ [])
unfolding computing
cut_header = refl

-- a header alone is a listing, of either version
header_alone : (printed (from_hex "010100") ≡ []) × (printed (from_hex "020100") ≡ [])
unfolding computing
header_alone = (refl, refl)

-- ---- bad records: cut short, of another length than its kind's, of no byte, of no kind; nothing after one is played
cut_short : printed (from_hex "010100 0001 04 0005 06 3F00") ≡ text ("E 4 0" ∷ "X 6" ∷ [])
unfolding computing
cut_short = refl

too_long : printed (from_hex "010100 0002 04 00 0001 04") ≡ text ("X 3" ∷ [])
unfolding computing
too_long = refl

no_byte : printed (from_hex "010100 0000 0001 04") ≡ text ("X 3" ∷ [])
unfolding computing
no_byte = refl

no_kind : printed (from_hex "010100 0001 08 0001 04") ≡ text ("X 3" ∷ [])
unfolding computing
no_kind = refl

-- a frame of one float where there are two channels
one_of_two : printed (from_hex "010200 0005 06 00000000") ≡ text ("X 3" ∷ [])
unfolding computing
one_of_two = refl

-- ---- parameters: an attack of 2 ^ 24 + 1 is refused, a loop mode of 3 is bad
long_attack :
    printed (from_hex "010100 002D 00 01000001 00000000 00 01 04 3F800000 3F800000 3F800000 00 3F800000 472C4400 42F00000 00000004 00000004")
    ≡ text ("E 0 4" ∷ [])
unfolding computing
long_attack = refl

mode_three :
    printed (from_hex "010100 002D 00 00000000 00000000 00 03 04 3F800000 3F800000 3F800000 00 3F800000 472C4400 42F00000 00000004 00000004")
    ≡ text ("X 3" ∷ [])
unfolding computing
mode_three = refl

abbrev mono : Header
mono = record { second = false; stereo = false; auto_passthru = false }

abbrev stereo : Header
stereo = record { second = false; stereo = true; auto_passthru = false }

abbrev second : Header
second = record { second = true; stereo = false; auto_passthru = false }

-- pass-through, loop mode, length kind and note-off mode: the last of each that is named, and the next
abbrev settings : ℕ → ℕ → ℕ → ℕ → List ℕ
settings pass mode kind off =
    from_hex "002D 00 00000000 00000000" ++ (pass ∷ mode ∷ kind ∷ (from_hex "3F800000 3F800000 3F800000" ++ (off ∷ from_hex "3F800000 472C4400 42F00000 00000004 00000004")))

modes_named :
    map (good_record mono) (settings 1 2 4 2 ∷ settings 2 2 4 2 ∷ settings 1 3 4 2 ∷ settings 1 2 5 2 ∷ settings 1 2 4 3 ∷ [])
    ≡ true ∷ false ∷ false ∷ false ∷ false ∷ []
unfolding computing
modes_named = refl

-- in version 2 the last length kind is 5, and the other modes are as they were
modes_of_two :
    map (good_record second) (settings 1 2 5 2 ∷ settings 2 2 5 2 ∷ settings 1 3 5 2 ∷ settings 1 2 6 2 ∷ settings 1 2 5 3 ∷ [])
    ≡ true ∷ false ∷ false ∷ false ∷ false ∷ []
unfolding computing
modes_of_two = refl

-- a bar of 4/4 by length kind 5: a bad record in version 1, and good in version 2
abbrev bars : String → List ℕ
bars count = from_hex "002D 00 00000000 00000000 00 01 05" ++ from_hex count ++ from_hex "3F800000 3F800000 00 3F000000 472C4400 42F00000 00000004 00000004"

one_bar : (printed (from_hex "010100" ++ bars "3F800000") ≡ text ("X 3" ∷ [])) × (printed (from_hex "020100" ++ bars "3F800000") ≡ text ("E 0 0" ∷ []))
unfolding computing
one_bar = (refl, refl)

-- 48 bars are above 2 ^ 22 samples, and refused: the volume is still that of 47
many_bars : printed (from_hex "020101" ++ bars "423C0000" ++ from_hex "002D 00 00000000 00000000 00 01 05 42400000 3F800000 3F800000 00 3F800000 472C4400 42F00000 00000004 00000004 0005 06 3F800000") ≡ text ("E 0 0" ∷ "E 0 4" ∷ "F 0 3F000000 0" ∷ [])
unfolding computing
many_bars = refl

-- ---- two channels, with the input passed on: a NaN pattern is printed as such, whichever it is, and a float by its bits
passed_on : printed (from_hex "010201 0009 06 FF800001 BE800000") ≡ text ("F 0 NAN BE800000 0" ∷ [])
unfolding computing
passed_on = refl

-- ---- each field in its place: records in which no two fields are alike
abbrev half : Float
half = fin false 1 (negsuc 0)

abbrev quarter : Float
quarter = fin false 1 (negsuc 1)

-- attack 1, decay 2, pass-through on, ping-pong, 0.5 bars, speed 2, reverse speed 3, zero crossing, volume 0.25, rate 4, tempo 5, 6 / 7
each_setting :
    record_of mono (from_hex "002D 00 00000001 00000002 01 02 03 3F000000 40000000 40400000 01 3E800000 40800000 40A00000 00000006 00000007")
    ≡ Some (Parameters (record {
      attack_samples = 1;
      decay_samples = 2;
      transport = record { sample_rate = as_float 4; tempo = as_float 5; time_sig_numerator = 6; time_sig_denominator = 7 };
      loop_length = Time (Bars half);
      speed = as_float 2;
      reverse_speed = as_float 3;
      volume = quarter;
      auto_passthru = true;
      loop_mode = PingPong;
      note_off_behavior = ZeroCrossing;
    }))
unfolding computing
each_setting = refl

length_kinds : map (λ (kind : ℕ). length_by_kind kind half) (0 ∷ 1 ∷ 2 ∷ 3 ∷ 4 ∷ 5 ∷ []) ≡ Time (QuarterNotes half) ∷ Time (Samples half) ∷ Time (Seconds half) ∷ Time (Bars half) ∷ Ratio half ∷ WholeBars half ∷ []
unfolding computing
length_kinds = refl

-- note 60, channel 5, position or speed 0.5, velocity 0.25
each_call :
    map (record_of mono) (
    from_hex "000B 01 3C 05 3F000000 3E800000"
    ∷ from_hex "0003 02 3C 05"
    ∷ from_hex "0007 03 3C 05 3F000000"
    ∷ from_hex "0001 04"
    ∷ from_hex "0001 05"
    ∷ from_hex "0005 06 3F000000"
    ∷ from_hex "0001 07"
    ∷ []
    )
    ≡ map Some (
    Start (record { note = 60; channel = 5 }) half quarter
    ∷ Stop (record { note = 60; channel = 5 })
    ∷ Speed (record { note = 60; channel = 5 }) half
    ∷ StartRecording
    ∷ StopRecording
    ∷ Mono half
    ∷ Reset
    ∷ []
    )
unfolding computing
each_call = refl

two_floats : record_of stereo (from_hex "0009 06 3F000000 3E800000") ≡ Some (Stereo half quarter)
unfolding computing
two_floats = refl

-- ---- "Memory: 4,096 samples a channel", of one and of two
capacities : map (λ (h : Header). (player_of h 8192).sampler.capacity) (mono ∷ stereo ∷ []) ≡ 4096 ∷ 4096 ∷ []
unfolding computing
capacities = refl

-- ---- "Before kind 0 the Rust's defaults hold": pass-through rises over 100 samples
defaults_hold : printed (from_hex "010100 0005 06 3F800000 0005 06 3F800000 0005 06 3F800000") ≡ text ("F 0 00000000 0" ∷ "F 1 3C23D70A 0" ∷ "F 2 3CA3D70A 0" ∷ [])
unfolding computing
defaults_hold = refl

-- "a kind 0 that row 4 refuses leaves the old ones": the volume is still 0.5
old_ones_left :
    printed (
    from_hex "010101 002D 00 00000000 00000000 00 01 04 3F800000 3F800000 3F800000 00 3F000000 472C4400 42F00000 00000004 00000004"
    ++ from_hex "002D 00 01000001 00000000 00 01 04 3F800000 3F800000 3F800000 00 3F800000 472C4400 42F00000 00000004 00000004"
    ++ from_hex "0005 06 3F800000"
    )
    ≡ text ("E 0 0" ∷ "E 0 4" ∷ "F 0 3F000000 0" ∷ [])
unfolding computing
old_ones_left = refl

-- ---- reasons, at each edge: one channel, records that are bad for one thing
reasons : Unit {0}
unfolding text from_hex pairs bytes half_at without good_header kind_length header_fault_of settings_fault_of kind_fault_of record_fault_of
reasons = tt

no_version : header_fault_of (from_hex "0301 00") ≡ Some (header.Version 3)
unfolding reasons
no_version = refl

last_kinds : (record_fault_of mono (settings 1 2 5 2) ≡ Some (fault.LengthKind 5 4)) × (record_fault_of second (settings 1 2 6 2) ≡ Some (fault.LengthKind 6 5))
unfolding reasons
last_kinds = (refl, refl)

-- a bad mode is called by its own name
modes_told : map (record_fault_of mono) (settings 2 2 4 2 ∷ settings 1 3 4 2 ∷ settings 1 2 4 3 ∷ []) ≡ map Some (fault.Passthru 2 ∷ fault.LoopMode 3 ∷ fault.NoteOff 3 ∷ [])
unfolding reasons
modes_told = refl

three_of_two : header_fault_of (from_hex "0103 00") ≡ Some (header.Channels 3)
unfolding reasons
three_of_two = refl

half_a_length : record_fault_of mono (from_hex "00") ≡ Some fault.NoLength
unfolding reasons
half_a_length = refl

length_of_46 : record_fault_of mono (from_hex "002E") ≡ Some (fault.TooLong 46)
unfolding reasons
length_of_46 = refl

two_missing : record_fault_of mono (from_hex "0005 06 3F00") ≡ Some (fault.Cut 3 5)
unfolding reasons
two_missing = refl

kind_eight : record_fault_of mono (from_hex "0001 08") ≡ Some (fault.Kind 8)
unfolding reasons
kind_eight = refl

frame_of_four : record_fault_of mono (from_hex "0004 06 3F0000") ≡ Some (fault.Length 6 4 5)
unfolding reasons
frame_of_four = refl
