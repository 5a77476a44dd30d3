-- Rules of document 01's modules, computed on small values and runs: what the nearest wrong neighbour of a definition would answer otherwise. Values that rounding decides are those of the Rust. Assumes nothing.
use mathlib.Core.Path.{◌≡◌, refl}
use mathlib.Core.Bool.{Bool, true, false}
use mathlib.Core.List.{List, [], ◌∷◌, ◌++◌, map}
use Prim.Native.Nat.{ℕ, ◌+◌, ◌*◌, ◌^◌}
use lib.IntN.{pos, negsuc}
use lib.ListN.{replicate, take}
use lib.Ieee.{Float, nan, inf, fin, neg}
use Rattle.std.specs.Prelude.{Ok, Err}
use Rattle.binary32.specs.Leaves.{as_float, floor_of, min_of, max_of, abs_of, crossing_of, zero32, one32}
use Rattle.common_types.specs.declared.Params.{Params}
use Rattle.common_types.specs.declared.Note.{Note}
use Rattle.common_types.specs.declared.Transport.{Transport}
use Rattle.common_types.specs.declared.NoteOffBehaviour.{NoteOffBehaviour}
use Rattle.common_types.specs.declared.NoteOffBehaviour.TheVariants as off
use Rattle.common_types.specs.declared.LoopMode.{LoopMode}
use Rattle.common_types.specs.declared.LoopMode.TheVariants as loop
use Rattle.common_types.specs.declared.time_value.TimeUnit.TheVariants.{SixteenthNotes}
use Rattle.common_types.specs.declared.time_value.TimeValue.{TimeValue}
use Rattle.common_types.specs.declared.time_value.TimeValue.TheVariants.{QuarterNotes, Samples, Seconds, Bars}
use Rattle.common_types.specs.declared.time_value.TimeOrRatio.{TimeOrRatio}
use Rattle.common_types.specs.declared.time_value.TimeOrRatio.TheVariants.{Time, Ratio}
use Rattle.common_types.specs.Notes.{into_u64_of, from_u64_of}
use Rattle.common_types.specs.Modes.{index_to_f32_of, loop_mode_to_index_of, loop_mode_to_f32_of, note_off_to_index_of, note_off_to_f32_of}
use Rattle.common_types.specs.Times.{from_unit_value_of, quarter_notes_per_bar_of, samples_per_quarter_note_of, samples_per_bar_of, as_samples_of}
use Rattle.common_types.specs.Settings.{default_transport, time_length_of, length_of}
use Rattle.volume.specs.declared.Volume.{Volume}
use Rattle.volume.specs.declared.Volume.TheVariants.{Static, Linear}
use Rattle.volume.specs.Levels.{is_static_and_mute_of, level_of, toward_of, stepped_of}
use Rattle.clip.specs.declared.Clip.{Clip}
use Rattle.clip.specs.declared.Mode.{Mode}
use Rattle.clip.specs.declared.Mode.TheVariants.{Loop, PingPong}
use Rattle.clip.specs.Positions.{mirrored_of, clip_offset_at, offset_at, index_at}
use Rattle.clip.specs.Updates.{with_speed, with_mode, with_length, with_data_length}
use Rattle.voice.specs.declared.Voice.{Voice}
use Rattle.voice.specs.declared.Tick.{Tick}
use Rattle.voice.specs.Voices.{moved_of}
use Rattle.channel.specs.Channels.{live}
use Rattle.questions.specs.declared.VoiceInfo.{VoiceInfo}
use Rattle.questions.specs.Questions.{list_after, notes_of, active_notes_after, get_last_recorded_offset_of, is_recording_of, voice_info_of, figures_of, voice_infos_of, get_voice_info_of}
use Rattle.std.specs.Prelude.{Some, None}
use Rattle.recorder.specs.Recording.{last_recorded_offset_of, is_recording_of as records_of}
use Rattle.promises.specs.Runs.{World, Call, start, stop, speed, start_recording, stop_recording, reset, sample, frame, code, after, run, chan, set_up, output}
use Rattle.promises.proofs.Examples.{computing, half, two, plain, key, press, since}
use Rattle.promises.proofs.Edges.{voice_with}

-- ==== leaves

-- a crossing to 1: "a change of sign bit, a value equal to 0, or a NaN on either side"; the last value's being 0 is none
pub crossings :
    (map (crossing_of one32) (one32 ∷ neg one32 ∷ zero32 ∷ neg zero32 ∷ nan ∷ inf true ∷ []) ≡ false ∷ true ∷ false ∷ true ∷ true ∷ true ∷ [])
    × (map (crossing_of nan) (one32 ∷ neg one32 ∷ nan ∷ []) ≡ true ∷ true ∷ true ∷ [])
    × (map (crossing_of zero32) (one32 ∷ zero32 ∷ []) ≡ true ∷ true ∷ [])
unfolding computing
crossings = (refl, refl, refl)

pub sizes_and_floors : (map abs_of (neg two ∷ two ∷ inf true ∷ nan ∷ []) ≡ two ∷ two ∷ inf false ∷ nan ∷ []) × (map floor_of (inf true ∷ nan ∷ []) ≡ inf true ∷ nan ∷ [])
unfolding computing
sizes_and_floors = (refl, refl)

pub smaller_and_larger : (map (min_of one32) (two ∷ half ∷ inf true ∷ []) ≡ one32 ∷ half ∷ inf true ∷ []) × (map (max_of one32) (two ∷ half ∷ inf true ∷ []) ≡ two ∷ one32 ∷ one32 ∷ [])
unfolding computing
smaller_and_larger = (refl, refl)

-- ==== settings
pub keys_packed : (into_u64_of (record { note = 60; channel = 1 }) ≡ 60 * 256 + 1) × (from_u64_of (7 * 2 ^ 16 + 60 * 256 + 1) ≡ record { note = 60; channel = 1 })
keys_packed = (refl, refl)

pub modes_numbered :
    (map loop_mode_to_index_of (loop.PlayOnce ∷ loop.Loop ∷ loop.PingPong ∷ []) ≡ 0 ∷ 1 ∷ 2 ∷ [])
    × (map note_off_to_index_of (off.Decay ∷ off.ZeroCrossing ∷ off.DecayAndZeroCrossing ∷ []) ≡ 0 ∷ 1 ∷ 2 ∷ [])
modes_numbered = (refl, refl)

-- the middle of each mode's part of 0 to 1
abbrev middles : List Float
middles = fin false 11184811 (negsuc 25) ∷ half ∷ fin false 6990507 (negsuc 22) ∷ []

pub modes_dialled :
    (map loop_mode_to_f32_of (loop.PlayOnce ∷ loop.Loop ∷ loop.PingPong ∷ []) ≡ middles) × (map note_off_to_f32_of (off.Decay ∷ off.ZeroCrossing ∷ off.DecayAndZeroCrossing ∷ []) ≡ middles)
unfolding computing index_to_f32_of
modes_dialled = (refl, refl)

-- a transport no figure of which stands for another, and a length of 1.5 in each unit: 1.5 * (44100 * 60 / 177), and so on
abbrev odd : Transport
odd = record { sample_rate = as_float 44100; tempo = as_float 177; time_sig_numerator = 3; time_sig_denominator = 5 }

abbrev units : List TimeValue
units = QuarterNotes (fin false 3 (negsuc 0)) ∷ Samples (fin false 3 (negsuc 0)) ∷ Seconds (fin false 3 (negsuc 0)) ∷ Bars (fin false 3 (negsuc 0)) ∷ []

pub time_lengths : map (λ (v : TimeValue). time_length_of v odd) units ≡ fin false 11480949 (negsuc 8) ∷ fin false 3 (negsuc 0) ∷ as_float 66150 ∷ fin false 6888569 (negsuc 8) ∷ []
unfolding computing samples_per_quarter_note_of
time_lengths = refl

pub sample_lengths : map (λ (v : TimeValue). as_samples_of v odd) units ≡ fin false 11480949 (negsuc 8) ∷ fin false 3 (negsuc 0) ∷ as_float 66150 ∷ fin false 3444285 (negsuc 5) ∷ []
unfolding computing as_samples_of samples_per_bar_of samples_per_quarter_note_of quarter_notes_per_bar_of
sample_lengths = refl

pub ratio_and_sixteenths : (length_of (Ratio half) odd 11 ≡ fin false 11 (negsuc 0)) × (from_unit_value_of SixteenthNotes (as_float 3) ≡ QuarterNotes (fin false 3 (negsuc 1)))
unfolding computing from_unit_value_of
ratio_and_sixteenths = (refl, refl)

-- ==== volumes: from 0.1 to 0.7 over 3, read from its start to past its end
abbrev tenth : Float
tenth = fin false 13421773 (negsuc 26)

abbrev seven_tenths : Float
seven_tenths = fin false 11744051 (negsuc 23)

abbrev climb : Volume
climb = Linear 5 8 tenth seven_tenths

pub climbs : map (level_of climb) (5 ∷ 6 ∷ 7 ∷ 8 ∷ 9 ∷ []) ≡ tenth ∷ fin false 10066329 (negsuc 24) ∷ fin false 16777215 (negsuc 24) ∷ seven_tenths ∷ seven_tenths ∷ []
unfolding computing
climbs = refl

-- turned at 6 it falls from the level there; with no time left it is there at once
pub turned : (toward_of climb 6 4 zero32 ≡ Linear 6 10 (fin false 10066329 (negsuc 24)) zero32) × (toward_of climb 6 0 half ≡ Static half)
unfolding computing
turned = (refl, refl)

pub steps_at_its_end : map (stepped_of climb) (7 ∷ 8 ∷ []) ≡ climb ∷ Static seven_tenths ∷ []
unfolding computing
steps_at_its_end = refl

-- steady at 0 of either sign
pub mutes : map is_static_and_mute_of (Static zero32 ∷ Static (neg zero32) ∷ Static (fin false 1 (negsuc 148)) ∷ Linear 0 1 zero32 zero32 ∷ []) ≡ true ∷ true ∷ false ∷ false ∷ []
unfolding computing
mutes = refl

-- ==== clips

abbrev clip_from : ℕ → Float → Float → Float → Float → Float → Mode → Clip
clip_from since start speed length data_length shift mode = record { since = since; start = start; speed = speed; length = length; data_length = data_length; shift = shift; mode = mode }

-- x = shift + elapsed * speed, from `since` 3 on
pub shifted : map (clip_offset_at (clip_from 3 zero32 two (as_float 9) (as_float 9) one32 Loop)) (3 ∷ 4 ∷ 5 ∷ 6 ∷ 7 ∷ []) ≡ as_float 1 ∷ as_float 3 ∷ as_float 5 ∷ as_float 7 ∷ as_float 0 ∷ []
unfolding computing
shifted = refl

-- ping-pong backwards goes by |x|; length 1.5 leaves no place below 0, and none above 0.5
pub backwards : map (clip_offset_at (clip_from 0 zero32 (neg one32) (as_float 4) (as_float 9) zero32 PingPong)) (0 ∷ 1 ∷ 2 ∷ 3 ∷ 4 ∷ []) ≡ as_float 1 ∷ as_float 2 ∷ as_float 3 ∷ as_float 3 ∷ as_float 2 ∷ []
unfolding computing
backwards = refl

pub short_ping_pong : map (clip_offset_at (clip_from 0 zero32 half (fin false 3 (negsuc 0)) (as_float 9) zero32 PingPong)) (0 ∷ 1 ∷ 2 ∷ 3 ∷ 4 ∷ 5 ∷ 6 ∷ []) ≡ zero32 ∷ half ∷ half ∷ half ∷ zero32 ∷ zero32 ∷ zero32 ∷ []
unfolding computing
short_ping_pong = refl

-- 2 * length - y - 1 from left to right
pub mirrors : mirrored_of (fin false 10468983 (negsuc 26)) (fin false 5 (negsuc 1)) ≡ fin false 1491075 (negsuc 19)
unfolding computing
mirrors = refl

-- the sample that sounds is the whole part
pub indices : map (index_at (clip_from 0 zero32 half (as_float 4) (as_float 9) zero32 Loop)) (0 ∷ 1 ∷ 2 ∷ 3 ∷ []) ≡ 0 ∷ 0 ∷ 1 ∷ 1 ∷ []
unfolding computing
indices = refl

-- where a clip goes on from after an update
abbrev resumes : Clip → Float × ℕ
resumes c = (c.shift, c.since)

-- there and back over 4 places, from place 1 on: an equal value changes nothing
abbrev there : Clip
there = clip_from 0 zero32 one32 (as_float 4) (as_float 9) one32 PingPong

pub equal_values :
    (resumes (with_speed there 2 one32) ≡ (one32, 0))
    × (resumes (with_mode there 2 PingPong) ≡ (one32, 0))
    × (resumes (with_length there 2 (as_float 4)) ≡ (one32, 0))
    × (resumes (with_data_length there 2 (as_float 9)) ≡ (one32, 0))
unfolding computing
equal_values = (refl, refl, refl, refl)

-- another goes on from the place now, at times 0 to 8, and that is at 1 2 3 3 2 1 0 0 1; on the way back, which the new value decides with the old shift and `since`, from the mirror place
abbrev after_each : (ℕ → Clip) → List (Float × ℕ)
after_each update = map (λ (now : ℕ). resumes (update now)) (0 ∷ 1 ∷ 2 ∷ 3 ∷ 4 ∷ 5 ∷ 6 ∷ 7 ∷ 8 ∷ [])

abbrev at_each : List ℕ → List (Float × ℕ)
at_each shifts = numbered 0 shifts
  where
    numbered : ℕ → List ℕ → List (Float × ℕ)
    numbered n [] = []
    numbered n (x ∷ xs) = (as_float x, n) ∷ numbered (n + 1) xs

pub slower : after_each (λ (now : ℕ). with_speed there now half) ≡ at_each (1 ∷ 2 ∷ 3 ∷ 3 ∷ 2 ∷ 1 ∷ 7 ∷ 7 ∷ 6 ∷ [])
unfolding computing
slower = refl

pub faster : after_each (λ (now : ℕ). with_speed there now two) ≡ at_each (1 ∷ 2 ∷ 4 ∷ 4 ∷ 2 ∷ 1 ∷ 7 ∷ 7 ∷ 1 ∷ [])
unfolding computing
faster = refl

pub turned_round : after_each (λ (now : ℕ). with_speed there now (neg one32)) ≡ at_each (1 ∷ 2 ∷ 3 ∷ 3 ∷ 5 ∷ 6 ∷ 7 ∷ 7 ∷ 1 ∷ [])
unfolding computing
turned_round = refl

pub longer : after_each (λ (now : ℕ). with_length there now (as_float 5)) ≡ at_each (1 ∷ 2 ∷ 3 ∷ 3 ∷ 7 ∷ 8 ∷ 9 ∷ 9 ∷ 8 ∷ [])
unfolding computing
longer = refl

pub shorter : after_each (λ (now : ℕ). with_length there now (as_float 3)) ≡ at_each (1 ∷ 2 ∷ 0 ∷ 0 ∷ 3 ∷ 1 ∷ 0 ∷ 0 ∷ 4 ∷ [])
unfolding computing
shorter = refl

pub looped : after_each (λ (now : ℕ). with_mode there now Loop) ≡ at_each (1 ∷ 2 ∷ 3 ∷ 3 ∷ 2 ∷ 1 ∷ 0 ∷ 0 ∷ 1 ∷ [])
unfolding computing
looped = refl

pub bounced : after_each (λ (now : ℕ). with_mode (clip_from 0 zero32 one32 (as_float 4) (as_float 9) one32 Loop) now PingPong) ≡ at_each (1 ∷ 2 ∷ 3 ∷ 7 ∷ 6 ∷ 5 ∷ 4 ∷ 0 ∷ 1 ∷ [])
unfolding computing
bounced = refl

-- a place that is exactly the new length is not found, nor one past it: from 0; round the end of the data too
pub lost :
    (resumes (with_length there 2 (as_float 3)) ≡ (zero32, 2))
    × (resumes (with_length there 2 two) ≡ (zero32, 2))
    × (resumes (with_length (clip_from 0 (as_float 8) one32 (as_float 4) (as_float 9) one32 Loop) 2 (as_float 3)) ≡ (zero32, 2))
unfolding computing
lost = (refl, refl, refl)

-- a NaN is no equal value: each update begins anew
pub never_equal : resumes (with_speed (clip_from 0 zero32 nan (as_float 4) (as_float 9) zero32 Loop) 2 nan) ≡ (as_float 3, 2)
unfolding computing
never_equal = refl

-- at offset 5: a data length of 6 keeps shift and `since`, one of exactly 5 doesn't
abbrev at_five : Clip
at_five = clip_from 0 (as_float 3) one32 (as_float 10) (as_float 10) one32 Loop

pub cut_to_the_offset :
    (offset_at at_five 1 ≡ as_float 5) × (resumes (with_data_length at_five 1 (as_float 6)) ≡ (one32, 0)) × (resumes (with_data_length at_five 1 (as_float 5)) ≡ (zero32, 1))
unfolding computing
cut_to_the_offset = (refl, refl, refl)

-- "update length, speed, data length, mode": with any two that are neighbours exchanged it would go on from another place
abbrev all_change : Tick
all_change = record {
  now = 1;
  decay_samples = 0;
  span = record { length = as_float 3; whole_length = as_float 3; data_length = two };
  speed = neg one32;
  mode = PingPong;
  once = false;
  note_off_behavior = off.Decay;
  interpolates = false;
  phrase = 0;
}

pub updates_in_order : moved_of all_change (voice_with 0 (Static one32) (clip_from 0 two two (as_float 4) (as_float 3) zero32 Loop)) ≡ clip_from 1 two (neg one32) (as_float 3) two one32 PingPong
unfolding computing
updates_in_order = refl

-- ==== keys

-- row 5 counts no channel whose recording is empty: 32 voices stand, recording starts and stops with no sample in between, and a start is accepted
pub full_and_empty : code (since (replicate 32 (press 60) ++ (start_recording ∷ stop_recording ∷ []))) (press 60) ≡ 0
unfolding computing
full_and_empty = refl

-- a key is its note and its MIDI channel: of note 60 on channel 0, one of each that another key shares
abbrev others : List Note
others = record { note = 60; channel = 1 } ∷ record { note = 61; channel = 0 } ∷ []

abbrev finished : World → List Bool
finished w = map (λ (v : Voice). v.finished) (live (chan w 1))

abbrev speeds : World → List Float
speeds w = map (λ (v : Voice). v.speed) (live (chan w 1))

pub stops_its_key :
    (map (λ (n : Note). finished (after (since (press 60 ∷ [])) (stop n plain))) others ≡ (false ∷ []) ∷ (false ∷ []) ∷ []) × (finished (since (press 60 ∷ stop (key 60) plain ∷ [])) ≡ true ∷ [])
unfolding computing
stops_its_key = (refl, refl)

pub speeds_its_key :
    (map (λ (n : Note). speeds (after (since (press 60 ∷ [])) (speed n half))) others ≡ (one32 ∷ []) ∷ (one32 ∷ []) ∷ []) × (speeds (since (press 60 ∷ press 60 ∷ speed (key 60) half ∷ [])) ≡ half ∷ half ∷ [])
unfolding computing
speeds_its_key = (refl, refl)

-- a stop finishes the oldest that isn't finished; a note's speed is that of its finished voices too
pub stops_one_at_a_time :
    (finished (since (press 60 ∷ press 60 ∷ stop (key 60) plain ∷ [])) ≡ true ∷ false ∷ [])
    × (finished (since (press 60 ∷ press 60 ∷ stop (key 60) plain ∷ stop (key 60) plain ∷ [])) ≡ true ∷ true ∷ [])
    × (speeds (since (press 60 ∷ stop (key 60) plain ∷ speed (key 60) half ∷ [])) ≡ half ∷ [])
unfolding computing
stops_one_at_a_time = (refl, refl, refl)

-- ==== runs of one channel

-- attack, decay, whether the input is passed on, loop mode, note-off mode, loop length, speed, volume
abbrev set : ℕ → ℕ → Bool → LoopMode → NoteOffBehaviour → TimeOrRatio → Float → Float → Params
set attack decay auto mode behaviour length speed volume = record {
  attack_samples = attack;
  decay_samples = decay;
  transport = default_transport;
  loop_length = length;
  speed = speed;
  reverse_speed = one32;
  volume = volume;
  auto_passthru = auto;
  loop_mode = mode;
  note_off_behavior = behaviour;
}

abbrev fade : ℕ → NoteOffBehaviour → Params
fade decay behaviour = set 0 decay false loop.Loop behaviour (Ratio one32) one32 one32

abbrev passes : ℕ → ℕ → Bool → Params
passes attack decay auto = set attack decay auto loop.Loop off.Decay (Ratio one32) one32 one32

-- a sample of that input; of no input
abbrev takes : Float → Params → Call
takes x p = frame (x ∷ []) p

abbrev plays : Params → Call
plays p = takes zero32 p

-- 4 cells, set up with or without auto pass-through, and these values recorded
abbrev begun : Bool → World
begun auto = set_up 1 (record { auto_passthru = auto }) (0 ∷ 0 ∷ 0 ∷ 0 ∷ [])

abbrev holding : List Float → World
holding xs = run (begun false) (start_recording ∷ (map (λ (x : Float). takes x plain) xs ++ (stop_recording ∷ [])))

-- what each call of a run sounds, and how many voices it leaves
abbrev heard : World → List Call → List Float
heard w [] = []
heard w (c ∷ cs) = output w c 0 ∷ heard (after w c) cs

abbrev left : World → List Call → List ℕ
left w [] = []
left w (c ∷ cs) = (chan (after w c) 0).count ∷ left (after w c) cs

-- ---- pass-through

-- set up with it, and not asked for: it goes on, since it was never on. Set up without it, and asked for: from the second sample on, attack being 0
pub passed_from_set_up :
    (heard (begun true) (replicate 3 (takes one32 (passes 0 0 false))) ≡ one32 ∷ one32 ∷ one32 ∷ []) × (heard (begun false) (replicate 3 (takes one32 (passes 0 0 true))) ≡ zero32 ∷ one32 ∷ one32 ∷ [])
unfolding computing
passed_from_set_up = (refl, refl)

-- "`reset` sets pass-through to 0 whatever set-up had", and it is off
pub passed_from_reset :
    (heard (run (begun true) (reset ∷ [])) (replicate 2 (takes one32 (passes 0 0 false))) ≡ zero32 ∷ zero32 ∷ [])
    × (heard (run (begun true) (takes one32 (passes 0 0 true) ∷ reset ∷ [])) (replicate 2 (takes one32 (passes 0 0 true))) ≡ zero32 ∷ one32 ∷ [])
unfolding computing
passed_from_reset = (refl, refl)

-- it rises over the attack, 2; falls over the decay, 4, from a start on; and rises from where it is once no voice is unfinished
abbrev riding : Params
riding = passes 2 4 true

abbrev ridden : List Call
ridden = replicate 3 (takes one32 riding)

abbrev quarters : ℕ → Float
quarters n = fin false n (negsuc 1)

pub rides :
    heard (holding (zero32 ∷ [])) (ridden ++ (start zero32 (key 60) one32 riding ∷ (ridden ++ (stop (key 60) riding ∷ ridden))))
    ≡ zero32 ∷ half ∷ one32 ∷ zero32 ∷ one32 ∷ quarters 3 ∷ half ∷ zero32 ∷ fin false 1 (negsuc 1) ∷ fin false 5 (negsuc 2) ∷ one32 ∷ []
unfolding computing
rides = refl

-- with another voice unfinished it falls on
pub rides_on :
    heard (run (holding (zero32 ∷ [])) (ridden ++ (start zero32 (key 60) one32 riding ∷ start zero32 (key 61) one32 riding ∷ []))) (ridden ++ (stop (key 60) riding ∷ ridden))
    ≡ one32 ∷ quarters 3 ∷ half ∷ zero32 ∷ fin false 1 (negsuc 1) ∷ zero32 ∷ zero32 ∷ []
unfolding computing
rides_on = refl

-- ---- a start: from its position, by its velocity, over its attack; and the volume of all
abbrev four : World
four = holding (one32 ∷ half ∷ fin false 1 (negsuc 1) ∷ two ∷ [])

pub begins :
    heard four (start half (key 60) half (set 2 0 false loop.Loop off.Decay (Ratio one32) one32 one32) ∷ replicate 4 (plays plain))
    ≡ zero32 ∷ zero32 ∷ half ∷ half ∷ fin false 1 (negsuc 1) ∷ []
unfolding computing
begins = refl

-- at twice the speed; at that and half its note's own; and at half the volume
pub paced : heard (run four (press 60 ∷ [])) (replicate 3 (plays (set 0 0 false loop.Loop off.Decay (Ratio one32) two one32))) ≡ one32 ∷ fin false 1 (negsuc 1) ∷ one32 ∷ []
unfolding computing
paced = refl

pub paced_by_note : heard (run four (press 60 ∷ speed (key 60) half ∷ [])) (replicate 4 (plays (set 0 0 false loop.Loop off.Decay (Ratio one32) two one32))) ≡ one32 ∷ half ∷ fin false 1 (negsuc 1) ∷ two ∷ []
unfolding computing
paced_by_note = refl

pub turned_down : heard (run four (press 60 ∷ [])) (plays (set 0 0 false loop.Loop off.Decay (Ratio one32) one32 half) ∷ []) ≡ half ∷ []
unfolding computing
turned_down = refl

-- ---- "A sample records first, then plays": what is recorded over a value is heard
pub records_first : heard (run four (press 60 ∷ start_recording ∷ [])) (takes (quarters 3) plain ∷ plays plain ∷ []) ≡ quarters 3 ∷ zero32 ∷ []
unfolding computing
records_first = refl

-- on empty data the clock runs on and a ramp catches up: attack 4, two samples with nothing recorded, then a 1
pub catches_up :
    heard (run (holding (one32 ∷ half ∷ [])) (start zero32 (key 60) one32 (passes 4 0 false) ∷ start_recording ∷ stop_recording ∷ []))
    (plays plain ∷ plays plain ∷ start_recording ∷ takes one32 plain ∷ [])
    ≡ zero32 ∷ zero32 ∷ zero32 ∷ half ∷ []
unfolding computing
catches_up = refl

-- ---- how a voice goes: how many are left after each sample from a stop on

-- of a 1, which never crosses; `decay` at the stop, and later
abbrev ends : ℕ → ℕ → NoteOffBehaviour → List ℕ
ends first later behaviour = left (run (holding (one32 ∷ [])) (press 60 ∷ plays plain ∷ stop (key 60) (fade first behaviour) ∷ [])) (replicate 4 (plays (fade later behaviour)))

pub ends_by_decay : (ends 2 2 off.Decay ≡ 1 ∷ 1 ∷ 0 ∷ 0 ∷ []) × (ends 3 1 off.Decay ≡ 1 ∷ 1 ∷ 1 ∷ 0 ∷ [])
unfolding computing
ends_by_decay = (refl, refl)

pub ends_by_time : (ends 2 2 off.ZeroCrossing ≡ 1 ∷ 1 ∷ 0 ∷ 0 ∷ []) × (ends 3 1 off.ZeroCrossing ≡ 1 ∷ 0 ∷ 0 ∷ 0 ∷ []) × (ends 1 3 off.ZeroCrossing ≡ 1 ∷ 0 ∷ 0 ∷ 0 ∷ [])
unfolding computing
ends_by_time = (refl, refl, refl)

pub ends_by_either :
    (ends 2 2 off.DecayAndZeroCrossing ≡ 1 ∷ 1 ∷ 0 ∷ 0 ∷ []) × (ends 3 1 off.DecayAndZeroCrossing ≡ 1 ∷ 0 ∷ 0 ∷ 0 ∷ []) × (ends 1 3 off.DecayAndZeroCrossing ≡ 1 ∷ 0 ∷ 0 ∷ 0 ∷ [])
unfolding computing
ends_by_either = (refl, refl, refl)

-- of 1 and -1: the second sample crosses
abbrev crosses : NoteOffBehaviour → List ℕ
crosses behaviour = left (run (holding (one32 ∷ neg one32 ∷ [])) (press 60 ∷ plays plain ∷ stop (key 60) (fade 4 behaviour) ∷ [])) (replicate 2 (plays (fade 4 behaviour)))

pub ends_at_crossing : (crosses off.Decay ≡ 1 ∷ 1 ∷ []) × (crosses off.ZeroCrossing ≡ 0 ∷ 0 ∷ []) × (crosses off.DecayAndZeroCrossing ≡ 0 ∷ 0 ∷ [])
unfolding computing
ends_at_crossing = (refl, refl, refl)

-- one that is to be removed is skipped: stopped at a crossing, it is silent, whatever its level; so is one that is mute, and infinity times 0 is not added
pub skipped :
    (heard (run (holding (neg one32 ∷ [])) (press 60 ∷ plays plain ∷ stop (key 60) (fade 4 off.ZeroCrossing) ∷ [])) (plays (fade 4 off.ZeroCrossing) ∷ []) ≡ zero32 ∷ [])
    × (heard (run (holding (inf false ∷ [])) (press 60 ∷ plays plain ∷ stop (key 60) plain ∷ [])) (plays (fade 4 off.DecayAndZeroCrossing) ∷ []) ≡ zero32 ∷ [])
unfolding computing
skipped = (refl, refl)

-- the level that is heard is that of the sample's own time, and is stepped after it
pub fades : heard (run (holding (one32 ∷ [])) (press 60 ∷ stop (key 60) (fade 4 off.Decay) ∷ [])) (replicate 6 (plays (fade 4 off.Decay))) ≡ one32 ∷ quarters 3 ∷ half ∷ fin false 1 (negsuc 1) ∷ zero32 ∷ zero32 ∷ []
unfolding computing
fades = refl

-- play-once over 2.5 samples ends with the second, forwards and backwards; at half its speed with the fourth; a finished voice isn't finished again
abbrev once_at : Float → Params
once_at speed = set 0 0 false loop.PlayOnce off.Decay (Time (Samples (fin false 5 (negsuc 0)))) speed one32

pub plays_once :
    map (λ (x : Float). left (run four (press 60 ∷ [])) (replicate 5 (plays (once_at x)))) (one32 ∷ neg one32 ∷ half ∷ two ∷ [])
    ≡ (1 ∷ 0 ∷ 0 ∷ 0 ∷ 0 ∷ []) ∷ (1 ∷ 0 ∷ 0 ∷ 0 ∷ 0 ∷ []) ∷ (1 ∷ 1 ∷ 1 ∷ 0 ∷ 0 ∷ []) ∷ (0 ∷ 0 ∷ 0 ∷ 0 ∷ 0 ∷ []) ∷ []
unfolding computing
plays_once = refl

-- ==== questions

-- 3 samples on channel 0 and 2 on channel 1, a voice from 0.1 on, one from 0 on that is stopped, and two samples of each
abbrev apart : World
apart =
    run (set_up 2 (record { auto_passthru = false }) (replicate 8 0))
    (start_recording
    ∷ replicate 3 (sample 0 half plain)
    ++ (replicate 2 (sample 1 half plain) ++ (stop_recording ∷ start tenth (record { note = 60; channel = 1 }) one32 plain ∷ press 61 ∷ stop (key 61) (fade 9 off.Decay) ∷ frame (zero32 ∷ zero32 ∷ []) plain ∷ frame (zero32 ∷ zero32 ∷ []) plain ∷ [])))

-- two thirds of a recording
abbrev third : Params
third = set 0 0 false loop.Loop off.Decay (Ratio (fin false 11184811 (negsuc 23))) one32 one32

abbrev infos_at : ℕ → List VoiceInfo
infos_at j = elim (get_voice_info_of apart.sampler j third 2) [ Ok v ↦ take 2 v.infos | Err refusal ↦ [] ]

abbrev info : Float → Float → Float → VoiceInfo
info start end at = record { start = start; end = end; pos = at }

-- start, (start + loop length / data length) % 1, index / data length, of both voices: the loop length is channel 0's for channel 1 too
pub infos_told :
    (infos_at 0 ≡ info tenth (fin false 12862533 (negsuc 23)) (fin false 11184811 (negsuc 24)) ∷ info zero32 (fin false 11184811 (negsuc 23)) (fin false 11184811 (negsuc 24)) ∷ [])
    × (infos_at 1 ≡ info tenth (fin false 838861 (negsuc 22)) half ∷ info zero32 zero32 half ∷ [])
unfolding computing voice_info_of figures_of voice_infos_of get_voice_info_of
infos_told = (refl, refl)

-- of the two voices the one that isn't finished
pub notes_told : notes_of (live (chan apart 1)) ≡ 15361 ∷ []
unfolding computing
notes_told = refl

-- a lent list that is longer keeps its rest, one that just fits is filled, and one that is too short holds what it held
pub notes_listed : map (active_notes_after apart.sampler 1) ((5 ∷ 6 ∷ []) ∷ (5 ∷ []) ∷ [] ∷ []) ≡ (15361 ∷ 6 ∷ []) ∷ (15361 ∷ []) ∷ [] ∷ []
unfolding computing list_after
notes_listed = refl

-- the write place is that of the next sample, and there is none while the recorder is idle
pub recorder_told :
    (get_last_recorded_offset_of (run (begun false) (start_recording ∷ takes half plain ∷ [])).sampler 0 ≡ Ok (Some 1))
    × (get_last_recorded_offset_of (holding (half ∷ [])).sampler 0 ≡ Ok None)
    × (is_recording_of (run (begun false) (start_recording ∷ [])).sampler 0 ≡ Ok true)
    × (is_recording_of (holding (half ∷ [])).sampler 0 ≡ Ok false)
unfolding computing last_recorded_offset_of records_of
recorder_told = (refl, refl, refl, refl)

-- ==== memory: "Channel j owns the j-th part". Channel 0 recorded 0.5 and 1, and channel 1 1 and 0.5; a sample that doesn't record writes nothing
pub parts_owned : map (λ (cs : List Call). (since cs).memory) ([] ∷ (frame (two ∷ two ∷ []) plain ∷ []) ∷ []) ≡ replicate 2 (0x3f00_0000 ∷ 0x3f80_0000 ∷ 0x3f80_0000 ∷ 0x3f00_0000 ∷ [])
unfolding computing
parts_owned = refl
