-- Runs, computed, that meet the premises of each statement of the demands, so that none of them is empty; and runs that show where a bound lies. Assumes nothing.
use mathlib.Core.Path.{◌≡◌, refl, ap}
use mathlib.Core.Bool.{Bool, true, false, not, cond}
use mathlib.Core.Logic.{◌⊎◌, inl, inr}
use mathlib.Core.List.{List, [], ◌∷◌, ◌++◌, map}
use mathlib.Core.Option.{some}
use Prim.Native.Nat.{ℕ, zero, suc, ◌+◌, ◌-◌, ◌^◌, ◌<◌}
use native.Mathlib.Omega.{arith}
use lib.IntN.{pos, negsuc}
use lib.Dec.{lit<, lit≤}
use lib.ListN.{length, get_or, replicate}
use Rattle.std.specs.Prelude.{Result, Ok, Err}
use Rattle.refusals.specs.declared.Refusal.{Refusal}
use Rattle.refusals.specs.declared.Refusal.TheVariants.{BeyondLimits, ClockEnd, Broken, BadRun}
use Rattle.common_types.specs.declared.InitParams.{InitParams}
use Rattle.common_types.specs.declared.Params.{Params}
use Rattle.common_types.specs.declared.Note.{Note}
use Rattle.common_types.specs.declared.LoopMode.{LoopMode}
use Rattle.common_types.specs.declared.LoopMode.TheVariants as loop
use Rattle.common_types.specs.declared.NoteOffBehaviour.{NoteOffBehaviour}
use Rattle.common_types.specs.declared.NoteOffBehaviour.TheVariants as off
use Rattle.common_types.specs.declared.time_value.TimeOrRatio.TheVariants.{Ratio}
use Rattle.common_types.specs.Settings.{default_transport}
use Rattle.binary32.specs.Leaves.{floor_of, min_of, max_of, crossing_of, root_below, isqrt, root_of, zero32, one32}
use Rattle.binary32.specs.Wholes.{is_whole_in}
use Rattle.walks.proofs.Lists.Looks.{look_some}
use Rattle.walks.specs.Walks.{without, behind}
use Rattle.common_types.specs.Settings.{speed_of, time_length_of, length_of, loop_length_of, length_beyond, beyond_limits}
use Rattle.volume.specs.Levels.{progress_of, level_of, toward_of, stepped_of, good_ramp, good_volume}
use Rattle.recorder.specs.Recording.{raised, in_state, misused_of, skipped_of, start_of, stop_of, recorded_of, data_after, is_recording_of, good_recorder}
use Rattle.clip.specs.Positions.{position_of, one_further, next_at, lead_of, travel_at, looped_of, round_trip_of, mirrored_of, bounced_of, wrapped_of, placed_of, clip_offset_at, clip_to_data_of, offset_at, index_at}
use Rattle.clip.specs.Updates.{made_of, back_of, found_at, reversing_at, shift_for, settled_of, with_speed, with_mode, with_length, with_data_length}
use Rattle.clip.specs.Refusals.{good_length, good_clip}
use Rattle.clip.specs.Plain.{PlainClip, is_plain}
use Rattle.clip.proofs.Plain.{tested}
use Rattle.walks.specs.Each.{Each}
use Rattle.phrases.specs.Phrases.{no_samples, is_over_by, reach_of, apart_of, stored_in, room_of, others_of, every_below, good_at, good_phrases, beside_with, beside_of}
use Rattle.phrases.specs.Gathering.{first_below, moved_down, gather_phrase, gather_next, gather_turns, gathering_of}
use Rattle.voice.specs.declared.Voice.{Voice}
use Rattle.voice.specs.declared.Moment.{Moment}
use Rattle.voice.specs.Voices.{span_of, tick_of, late_of, over_of, should_remove_of, moved_of, between_of, value_of, product_of, sounded_of, finish_of, played_out_of, ended_of, volume_stepped, turn_of, fresh_of, blank_voice, at_speed_of, good_voice}
use Rattle.voice.specs.Agreeing.{agrees_of}
use Rattle.channel.specs.declared.Head.{Head}
use Rattle.channel.specs.Soundness.{FittingChange}
use Rattle.channel.specs.Heads.{phrase_by, begins_at, written_in, holds_of, phrase_after, recorder_after, interpolates_after, chosen_after, head_changed_of, next_time, head_of, ramp_of, passthru_of, closed_of, good_head}
use Rattle.channel.specs.Tables.{good_table, table_after, several_after, head_names, found_by, head_asks, asks_of, leaving_of, blocked_by, short_by}
use Rattle.channel.specs.Channels.{live, with_head, with_voices, channel_of, reset_of, uses_of, head_changed_in, gathered_in, gathered_memory, any_unfinished_of, handled_of, pushed_of, start_playing_of, wanted_of, find_of, finished_at_of, stop_playing_of, sped_of, set_note_speed_of, kept_of, tidied_of, added_of, heard_sum, played_of, turning_by, resting, turning_at, turning_of, turning_in, taken_of, memory_of, process_sample_of, changed_of, full_of, good_voices_of, good_channel, recording_of}
use Rattle.sampler.specs.Refusals.{good_sizes, good_sampler, against_any, capacity_of, good_with, set_up_judged, gather_judged, start_rows, stop_rows, speed_rows, sample_judged, frame_judged, latest_of, frames_left, run_judged, done_of, channel_judged}
use Rattle.sampler.specs.declared.Sampler.{Sampler}
use Rattle.sampler.specs.declared.Ran.{Ran}
use Rattle.questions.specs.declared.VoiceInfo.{VoiceInfo}
use Rattle.questions.specs.Questions.{notes_of, voice_info_of, list_counted, get_voice_info_of}
use Rattle.questions.specs.Waveforms.{cut_of, column_of, column_at, columns_from, waveform_judged}
use Rattle.sampler.specs.Samplers.{with_channels, set_up_of, each_of, answer_of, part_of, played_at, channel_stepped_of as sampled_of, output_of, moved_at, memory_at, process_sample_of as sample_of, sample_memory, gather_channel, gather_channels, gather_of, gather_memory, entry_of, entries_of, entries_moved, framed_of, frame_moved, frames_of, ran_of, run_answer}
use Rattle.fates.specs.Engine.{begun_of, passes_over, voice_turned, lets_go, leaves_of, turns_by, moment_at, held_at, step_of}
use Rattle.fates.specs.Events.{tick_at, act, is_reset, is_sample, decay_of}
use Rattle.fates.specs.Sounding.{term_of, terms_of}
use Rattle.fates.specs.Steady.{disagrees, alters, altered_in}
use Rattle.fates.specs.Places.{voice_at, at, gone, fate_of, follow, stops, becomes, added_by, out_of, plays_out, follow_all, stopped_in, finished_in}
use Rattle.promises.specs.Runs.{World, Call, start, stop, speed, start_recording, stop_recording, sample, frame, get_data_len, iter_active_notes, fill_voice_info, get_waveform_summary, asks, FittingCall, chan, own_part, set_up, question_judged, call_judged, code, after, run, done_to, event, events, is_reset_call, rewrites, output, before, one, makes}
use lib.Ieee.{Float, nan, fin, binary32, size, round, fits, add, sub, mul, div, rem, neg, lt, le, eq, of_int, to_unsigned, is_nan, of_bits, to_bits, nan_bits, of_fields}
use Rattle.promises.specs.Outcomes.{on, left_by}
use Rattle.promises.specs.Demands.{waveform, Plays, Asked, AllPlaced, Leaves, SoundsIn, FirstIn, terms_with, Demand3, Undisturbed, OnTheBeat, Shows, TruePositions}
use Rattle.promises.proofs.Outcomes.{settled}
use Rattle.promises.proofs.Whole.{no_panic, whole}
use Rattle.promises.proofs.Demands.{demands}
use Rattle.promises.proofs.Demand3.{demand3}
use Rattle.promises.proofs.TruePositions.{true_positions}
use Rattle.promises.proofs.Makes.{both_fit}

-- whatever a run computes by
unfoldable pub computing : Unit {0}
unfolding floor_of min_of max_of crossing_of without behind speed_of time_length_of length_of loop_length_of length_beyond beyond_limits progress_of level_of toward_of stepped_of good_ramp good_volume raised in_state misused_of skipped_of start_of stop_of recorded_of data_after is_recording_of good_recorder lead_of travel_at looped_of round_trip_of mirrored_of bounced_of wrapped_of placed_of clip_offset_at clip_to_data_of offset_at index_at made_of back_of found_at reversing_at shift_for settled_of with_speed with_mode with_length with_data_length good_length good_clip span_of tick_of late_of over_of should_remove_of moved_of position_of one_further next_at between_of value_of product_of sounded_of finish_of played_out_of ended_of volume_stepped turn_of fresh_of blank_voice at_speed_of good_voice no_samples is_over_by reach_of apart_of stored_in room_of others_of every_below good_at good_phrases beside_with beside_of first_below moved_down gather_phrase gather_next gather_turns gathering_of phrase_by begins_at written_in holds_of phrase_after recorder_after interpolates_after chosen_after next_time head_of ramp_of passthru_of closed_of good_head good_table table_after several_after head_names found_by head_asks asks_of leaving_of blocked_by short_by channel_of reset_of uses_of head_changed_in gathered_in gathered_memory any_unfinished_of handled_of pushed_of start_playing_of wanted_of find_of finished_at_of stop_playing_of sped_of set_note_speed_of head_changed_of kept_of tidied_of added_of heard_sum played_of turning_by resting turning_at turning_of turning_in taken_of begun_of passes_over voice_turned lets_go leaves_of turns_by moment_at held_at step_of memory_of process_sample_of changed_of full_of good_voices_of good_channel good_sizes good_sampler against_any capacity_of good_with set_up_judged gather_judged start_rows stop_rows speed_rows sample_judged frame_judged channel_judged notes_of list_counted set_up_of each_of answer_of part_of played_at sampled_of output_of moved_at memory_at sample_of sample_memory gather_channel gather_channels gather_of gather_memory entry_of entries_of entries_moved framed_of frame_moved act is_reset is_sample decay_of fate_of follow stops becomes added_by out_of plays_out follow_all stopped_in finished_in agrees_of disagrees alters altered_in set_up question_judged call_judged after run done_to event events is_reset_call rewrites output before add sub mul div rem neg lt le eq of_int to_unsigned is_nan of_bits to_bits nan_bits of_fields latest_of frames_left run_judged done_of frames_of ran_of run_answer
computing = tt

-- ---- parameters, keys, calls
abbrev pub half : Float
half = fin false 1 (negsuc 0)

abbrev pub two : Float
two = fin false 1 (pos 1)

abbrev pub with : ℕ → LoopMode → NoteOffBehaviour → Params
with decay mode behaviour = record {
  attack_samples = 0;
  decay_samples = decay;
  transport = default_transport;
  loop_length = Ratio one32;
  speed = one32;
  reverse_speed = one32;
  volume = one32;
  auto_passthru = false;
  loop_mode = mode;
  note_off_behavior = behaviour;
}

abbrev pub plain : Params
plain = with 0 loop.Loop off.Decay

abbrev pub once : Params
once = with 0 loop.PlayOnce off.Decay

abbrev pub fading : NoteOffBehaviour → Params
fading behaviour = with 2 loop.Loop behaviour

abbrev pub key : ℕ → Note
key n = record { note = n; channel = 0 }

abbrev pub press : ℕ → Call
press n = start zero32 (key n) one32 plain

-- both channels, no input
abbrev pub quiet : Params → Call
quiet p = frame (zero32 ∷ zero32 ∷ []) p

-- ---- set-up of 2 channels on 4 cells, and a recording of 2 samples on each: 0.5, 1 and 1, 0.5
abbrev pub init : InitParams
init = record { auto_passthru = false }

abbrev pub cells : List ℕ
cells = 0 ∷ 0 ∷ 0 ∷ 0 ∷ []

abbrev pub recorded : List Call
recorded = start_recording ∷ frame (half ∷ one32 ∷ []) plain ∷ frame (one32 ∷ half ∷ []) plain ∷ stop_recording ∷ []

abbrev pub since : List Call → World
since cs = run (set_up 2 init cells) (recorded ++ cs)

-- channel 1's part of the memory then: 1 and 0.5 as patterns
abbrev part : List ℕ
part = 0x3f80_0000 ∷ 0x3f00_0000 ∷ []

-- ---- on time: a second start of a note that sounds already
abbrev older : World
older = since (press 60 ∷ [])

-- a note speed, a question, a sample of the other channel, a stop that finds the older voice, one that finds none, and a start that is refused
abbrev between : List Call
between = speed (key 60) half ∷ asks (get_data_len 1) ∷ sample 0 zero32 plain ∷ stop (key 60) plain ∷ stop (key 61) plain ∷ start two (key 60) one32 plain ∷ []

abbrev younger : World
younger = run older (press 60 ∷ between)

-- at half the volume
abbrev soft : Params
soft = record {
  attack_samples = 0;
  decay_samples = 0;
  transport = default_transport;
  loop_length = Ratio one32;
  speed = one32;
  reverse_speed = one32;
  volume = half;
  auto_passthru = false;
  loop_mode = loop.Loop;
  note_off_behavior = off.Decay;
}

-- what a voice goes by that starts at count 2, with 2 samples recorded
abbrev pub then : Moment
then = record { now = 2; data_len = 2; interpolates = false; phrase = 0 }

promised : Demand3 older 1
unfolding computing
promised = demand3 2 init cells refl (recorded ++ (press 60 ∷ [])) 1 (lit< tt)

pub on_time_met : FirstIn younger (quiet soft) 1 soft zero32 part 1 (fresh_of plain zero32 (key 60) one32 then)
unfolding computing
on_time_met = promised.on_time zero32 (key 60) one32 plain refl refl between refl (quiet soft) soft zero32 part refl refl refl refl

-- the older voice, stopped with no decay, has no term; that of the younger one, at its note's speed 0.5, is its first recorded value, 1
pub on_time_terms : terms_with soft zero32 part (chan younger 1) 1 (at_speed_of half (fresh_of plain zero32 (key 60) one32 then)) ≡ one32 ∷ []
unfolding computing terms_of
on_time_terms = refl

-- and channel 1 sounds it at the volume 0.5
pub on_time_heard : output younger (quiet soft) 1 ≡ half
unfolding computing
on_time_heard = refl

-- between them no sample of channel 1 was accepted, and its count stood still
pub stands_met : (chan (run older between) 1).head.now ≡ (chan older 1).head.now
unfolding computing
stands_met = promised.stands between refl refl

-- stopped before its first sample, with no decay, a voice never sounds
pub stopped_first : output (since (press 60 ∷ stop (key 60) plain ∷ [])) (quiet plain) 1 ≡ zero32
unfolding computing
stopped_first = refl

-- ---- later samples
pub counts_met : (chan (after older (quiet plain)) 1).head.now ≡ (chan older 1).head.now + 1
unfolding computing
counts_met = promised.counts (quiet plain) plain zero32 part refl

pub hears_met : output older (sample 1 half plain) 1 ≡ mul binary32 one32 (step_of plain half (chan older 1) part).output
unfolding computing
hears_met = promised.hears (sample 1 half plain) plain half part refl

-- after a sample in which it sounds, and a second start of its note, the first voice sounds again
abbrev again : List Call
again = quiet plain ∷ press 60 ∷ []

pub sounds_on_met : (k : ℕ) × (u : Voice) × (follow_all (events older again 1) (chan older 1) 0 ≡ at k) × SoundsIn (run older again) (sample 1 zero32 plain) 1 plain zero32 part k u
unfolding computing
sounds_on_met = promised.sounds_on 0 (fresh_of plain zero32 (key 60) one32 then) refl refl again refl refl (sample 1 zero32 plain) plain zero32 part refl refl

-- it has come to 0.5, and the second one begins at 1
pub sounds_on_terms : terms_with plain zero32 part (chan (run older again) 1) 0 (get_or (live (chan (run older again) 1)) 0 blank_voice) ≡ half ∷ one32 ∷ []
unfolding computing terms_of
sounds_on_terms = refl

-- ---- stays: play-once finishes the voice in its second sample, and with no decay it leaves in that sample
pub stays_met : finished_in (events older (quiet once ∷ quiet once ∷ []) 1) (chan older 1) 0 ≡ true
unfolding computing
stays_met = promised.stays 0 (fresh_of plain zero32 (key 60) one32 then) refl refl (quiet once ∷ quiet once ∷ []) refl refl

-- and not before
pub stays_before : finished_in (events older (quiet once ∷ []) 1) (chan older 1) 0 ≡ false
unfolding computing
stays_before = refl

-- ---- order: of three voices the first leaves, and the others move up
abbrev trio : World
trio = since (press 60 ∷ press 61 ∷ press 62 ∷ stop (key 60) plain ∷ [])

abbrev voice : World → ℕ → Voice
voice w n = get_or (live (chan w 1)) n blank_voice

trio_promised : Demand3 trio 1
unfolding computing
trio_promised = demand3 2 init cells refl (recorded ++ (press 60 ∷ press 61 ∷ press 62 ∷ stop (key 60) plain ∷ [])) 1 (lit< tt)

pub first_leaves : follow (event trio (quiet plain) 1) (chan trio 1) 0 ≡ gone
unfolding computing
first_leaves = refl

pub follows_met : voice_at (chan (after trio (quiet plain)) 1) 0 ≡ some (becomes (event trio (quiet plain) 1) (chan trio 1) 1 (voice trio 1))
unfolding computing
follows_met = trio_promised.follows (quiet plain) 1 0 (voice trio 1) refl refl

pub left_in_met : Leaves trio 1 0 (asks (get_data_len 1) ∷ quiet plain ∷ quiet plain ∷ [])
unfolding computing
left_in_met = trio_promised.left_in 0 (voice trio 0) refl (asks (get_data_len 1) ∷ quiet plain ∷ quiet plain ∷ []) refl

pub in_order_met : 0 < 1
unfolding computing
in_order_met = trio_promised.in_order (quiet plain) 1 2 0 1 (voice trio 1) (voice trio 2) (lit< tt) refl refl refl refl

-- whoever stands at place 1 afterwards came from somewhere
pub none_else_met : (n : ℕ) × (follow (event trio (quiet plain) 1) (chan trio 1) n ≡ at 1)
unfolding computing
none_else_met = came (trio_promised.none_else (quiet plain) 1 (voice (after trio (quiet plain)) 1) (look_some (live (chan (after trio (quiet plain)) 1)) 1 blank_voice (lit< tt)))
  where
    came : ((n : ℕ) × (v : Voice) × (voice_at (chan trio 1) n ≡ some v) × (follow (event trio (quiet plain) 1) (chan trio 1) n ≡ at 1))
        ⊎ ((1 ≡ length (live (chan trio 1))) × (added_by (event trio (quiet plain) 1) (chan trio 1) ≡ voice (after trio (quiet plain)) 1 ∷ []))
        → (n : ℕ) × (follow (event trio (quiet plain) 1) (chan trio 1) n ≡ at 1)
    came (inl r) = (r.0, r.3)
    came (inr r) = let z : ◌≡◌ {A = ℕ} 0 1 = ap length r.1 in absurd (omega arith)

-- a start's own, at the end
pub none_else_new : added_by (event older (press 61) 1) (chan older 1) ≡ voice (after older (press 61)) 1 ∷ []
unfolding computing
none_else_new = refl

-- ---- goes: stopped at count 2 with decay 2, and gone by the end of sample 4, in each of the three modes
abbrev fades : NoteOffBehaviour → List Call
fades b = quiet (fading b) ∷ quiet (fading b) ∷ quiet (fading b) ∷ []

pub goes_met : (b : NoteOffBehaviour) → follow_all (events older (stop (key 60) (fading b) ∷ fades b) 1) (chan older 1) 0 ≡ gone
unfolding computing
goes_met off.Decay =
    promised.goes (stop (key 60) (fading off.Decay)) 0 (fresh_of plain zero32 (key 60) one32 then) refl refl (fades off.Decay) (fading off.Decay) zero32 part refl refl (lit≤ tt)
goes_met off.ZeroCrossing =
    promised.goes (stop (key 60) (fading off.ZeroCrossing)) 0 (fresh_of plain zero32 (key 60) one32 then) refl refl (fades off.ZeroCrossing) (fading off.ZeroCrossing) zero32 part refl refl (lit≤ tt)
goes_met off.DecayAndZeroCrossing =
    promised.goes (stop (key 60) (fading off.DecayAndZeroCrossing)) 0 (fresh_of plain zero32 (key 60) one32 then) refl refl (fades off.DecayAndZeroCrossing) (fading off.DecayAndZeroCrossing) zero32 part refl refl
    (lit≤ tt)

-- by the end of sample 3 it is not, where the decay alone decides
pub goes_before : follow_all (events older (stop (key 60) (fading off.Decay) ∷ quiet (fading off.Decay) ∷ quiet (fading off.Decay) ∷ []) 1) (chan older 1) 0 ≡ at 0
unfolding computing
goes_before = refl

-- the decay at n alone would be too early: finished with decay 2, it is still there after samples with decay 0
pub larger_needed : follow_all (events older (stop (key 60) (fading off.Decay) ∷ quiet plain ∷ quiet plain ∷ []) 1) (chan older 1) 0 ≡ at 0
unfolding computing
larger_needed = refl

-- the finishing sample itself may be the last: play-once with no decay
abbrev played_once : World
played_once = run (set_up 2 init cells) (recorded ++ (press 60 ∷ quiet once ∷ []))

pub goes_at_once : follow_all (events played_once (quiet once ∷ []) 1) (chan played_once 1) 0 ≡ gone
unfolding computing
goes_at_once =
    (demand3 2 init cells refl (recorded ++ (press 60 ∷ quiet once ∷ [])) 1 (lit< tt)).goes (quiet once) 0 (voice played_once 0) (look_some (live (chan played_once 1)) 0 blank_voice (lit< tt)) refl [] once zero32 part refl refl (lit≤ tt)

-- a recording that is empty keeps a finished voice, however late
pub empty_keeps : follow_all (events older (stop (key 60) plain ∷ start_recording ∷ stop_recording ∷ quiet plain ∷ quiet plain ∷ []) 1) (chan older 1) 0 ≡ at 0
unfolding computing
empty_keeps = refl

-- ---- free: the 32nd start is accepted, the 33rd refused; a voice stops and leaves, and a start is accepted again
abbrev nearly : World
nearly = since (replicate 31 (press 60))

abbrev full : World
full = since (replicate 32 (press 60))

abbrev stopped : World
stopped = run full (stop (key 60) plain ∷ [])

pub last_place : code nearly (press 60) ≡ 0
unfolding computing
last_place = refl

pub no_place : code full (press 60) ≡ 5
unfolding computing
no_place = refl

pub free_met : ((chan (after stopped (quiet plain)) 1).count < (chan stopped 1).count) × (full_of (chan (after stopped (quiet plain)) 1) ≡ false)
unfolding computing
free_met = (demand3 2 init cells refl (recorded ++ (replicate 32 (press 60) ++ (stop (key 60) plain ∷ []))) 1 (lit< tt)).free (quiet plain) 0 (finish_of 2 0 (fresh_of plain zero32 (key 60) one32 then)) refl refl refl

pub place_again : code (after stopped (quiet plain)) (press 60) ≡ 0
unfolding computing
place_again = refl

pub taken_met : live (chan (after older (press 61)) 1) ≡ live (chan older 1) ++ (fresh_of plain zero32 (key 61) one32 then ∷ [])
unfolding computing
taken_met = promised.taken zero32 (key 61) one32 plain refl refl

-- the other channel may still refuse it
pub full_other : code (after stopped (sample 1 zero32 plain)) (press 60) ≡ 5
unfolding computing
full_other = refl

-- ---- true positions: a voice started beside an older one, which leaves; a speed that is set and set back, and another start
abbrev steadily : List Call
steadily = stop (key 60) plain ∷ quiet plain ∷ speed (key 61) half ∷ speed (key 61) one32 ∷ quiet plain ∷ press 62 ∷ quiet plain ∷ []

true_promised : TruePositions older 1
unfolding computing
true_promised = true_positions 2 init cells refl (recorded ++ (press 60 ∷ [])) 1 (lit< tt)

-- both begin with a loop of the 2 samples, at the recording's start and at its half
whole_clip : PlainClip (fresh_of plain zero32 (key 61) one32 then).clip2 0 2 2
unfolding computing is_plain is_whole_in
whole_clip = (tested (fresh_of plain zero32 (key 61) one32 then).clip2 refl).plain

half_clip : PlainClip (fresh_of plain half (key 61) one32 then).clip2 1 2 2
unfolding computing is_plain is_whole_in
half_clip = (tested (fresh_of plain half (key 61) one32 then).clip2 refl).plain

undisturbed : Undisturbed older 1 (press 61) steadily (quiet plain) plain zero32 part (fresh_of plain zero32 (key 61) one32 then) 3
unfolding computing
undisturbed = record { accepted = refl; recorded = refl; no_reset = refl; unfinished = refl; unaltered = refl; sample = refl; finds = refl; later = refl; within = lit≤ tt }

-- 3 samples on it has moved up to place 0, and sounds and shows sample 1: the value 0.5
pub on_the_beat_met : OnTheBeat older 1 (press 61) steadily (quiet plain) plain zero32 part (fresh_of plain zero32 (key 61) one32 then) 1
unfolding computing
on_the_beat_met = true_promised.on_the_beat zero32 (key 61) one32 plain 0 2 2 whole_clip steadily (quiet plain) plain zero32 part 3 undisturbed

abbrev beaten : World
beaten = run older (press 61 ∷ steadily)

pub on_the_beat_term : term_of plain zero32 part (chan beaten 1) (voice beaten 0) ≡ half
unfolding computing
on_the_beat_term = refl

pub seen_met : Shows (after beaten (quiet plain)) 1 0 1
unfolding computing
seen_met = true_promised.seen zero32 (key 61) one32 plain 0 2 2 whole_clip steadily (quiet plain) plain zero32 part 3 undisturbed 0 0 refl refl

-- in the sample of its own count it sounds its start
pub no_lag_met : OnTheBeat older 1 (start half (key 61) one32 plain) [] (quiet plain) plain zero32 part (fresh_of plain half (key 61) one32 then) 1
unfolding computing
no_lag_met =
    true_promised.no_lag half (key 61) one32 plain 1 2 2 half_clip [] (quiet plain) plain zero32 part
    (record { accepted = refl; recorded = refl; no_reset = refl; unfinished = refl; unaltered = refl; sample = refl; finds = refl; later = refl; within = lit≤ tt })

-- a sample that finds the speed 0.5 alters the clip: it shows sample 0 where it would be at sample 1
abbrev altering : List Call
altering = speed (key 61) half ∷ quiet plain ∷ []

pub altered_met : (altered_in (events (after older (press 61)) altering 1) (chan (after older (press 61)) 1) 1 ≡ true)
    × ((voice (run older (press 61 ∷ (altering ++ (quiet plain ∷ [])))) 1).last_sample_index ≡ 0)
unfolding computing
altered_met = (refl, refl)

-- ---- a start that nothing refuses is accepted: of the 32, one has left
abbrev gone_by : List Call
gone_by = stop (key 60) plain ∷ quiet plain ∷ []

abbrev leaving : List Call
leaving = recorded ++ (replicate 32 (press 60) ++ gone_by)

abbrev left : World
left = run (set_up 2 init cells) leaving

-- two channels on 5 cells have 2 each, after those calls as before them
pub sizes_met : ((makes (set_up 2 init (0 ∷ cells)) (map one leaving)).sampler.count ≡ 2) × ((makes (set_up 2 init (0 ∷ cells)) (map one leaving)).sampler.capacity ≡ 2)
unfolding computing
sizes_met = (demands.count_stays 2 init (0 ∷ cells) refl (map one leaving), demands.capacity_stays 2 init (0 ∷ cells) refl (map one leaving))

fitting_presses : (n : ℕ) → Each FittingCall (replicate n (press 60))
unfolding Each FittingCall FittingChange fits
fitting_presses zero = tt
fitting_presses (suc n) = ((tt, tt, tt), fitting_presses n)

fitting_recorded : Each FittingCall recorded
unfolding Each FittingCall FittingChange fits
fitting_recorded = (tt, (tt, (tt, (tt, tt))))

fitting_leaving : Each FittingCall leaving
unfolding Each FittingCall FittingChange fits
fitting_leaving = both_fit recorded (replicate 32 (press 60) ++ gone_by) fitting_recorded (both_fit (replicate 32 (press 60)) gone_by (fitting_presses 32) (tt, (tt, tt)))

none_full : (j : ℕ) → j < 2 → full_of (chan left j) ≡ false
unfolding computing
none_full zero h = refl
none_full (suc zero) h = refl
none_full (suc (suc j)) h = absurd (omega arith)

pub opens_met : code left (press 60) ≡ 0
unfolding computing
opens_met = (whole 2 init cells refl leaving fitting_leaving).opens zero32 (key 60) one32 plain refl refl refl none_full

-- ---- no panic: a voice that plays
plays : Plays older 1 0 (fresh_of plain zero32 (key 60) one32 then) (quiet plain) plain zero32 part
unfolding computing FittingCall fits
plays = record { present = lit< tt; stands = refl; floats = tt; sample = refl; finds = refl }

fitting_older : Each FittingCall (recorded ++ (press 60 ∷ []))
unfolding Each
fitting_older = both_fit recorded (press 60 ∷ []) fitting_recorded (fitting_presses 1)

pub asked_met : Asked (tick_at plain part (chan older 1) (fresh_of plain zero32 (key 60) one32 then)) (fresh_of plain zero32 (key 60) one32 then)
unfolding computing
asked_met = (no_panic 2 init cells refl (recorded ++ (press 60 ∷ [])) fitting_older).asked 1 0 _ (quiet plain) plain zero32 part plays

-- one whose note has the speed NaN: each update finds it inside, and with the loop's length 2 it stands at 1
abbrev astray : World
astray = since (press 60 ∷ speed (key 60) nan ∷ [])

abbrev strayed : Voice
strayed = at_speed_of nan (fresh_of plain zero32 (key 60) one32 then)

strays : Plays astray 1 0 strayed (quiet plain) plain zero32 part
unfolding computing FittingCall fits
strays = record { present = lit< tt; stands = refl; floats = tt; sample = refl; finds = refl }

fitting_astray : Each FittingCall (recorded ++ (press 60 ∷ speed (key 60) nan ∷ []))
unfolding Each FittingCall FittingChange fits
fitting_astray = both_fit recorded (press 60 ∷ speed (key 60) nan ∷ []) fitting_recorded ((tt, tt, tt), (tt, tt))

pub placed_met : AllPlaced (tick_at plain part (chan astray 1) strayed) strayed
unfolding computing
placed_met = (no_panic 2 init cells refl (recorded ++ (press 60 ∷ speed (key 60) nan ∷ [])) fitting_astray).placed 1 0 strayed (quiet plain) plain zero32 part strays

pub placed_at : clip_offset_at (moved_of (tick_at plain part (chan astray 1) strayed) strayed) (chan astray 1).head.now ≡ one32
unfolding computing
placed_at = refl

-- ---- the memory: while recording, a frame of one entry writes 0.5 to channel 0's part, and leaves channel 1's part and the cell that no channel has
abbrev taking : World
taking = run (set_up 2 init (0 ∷ 0 ∷ 0 ∷ 0 ∷ 7 ∷ [])) (start_recording ∷ [])

abbrev one_entry : Call
one_entry = frame (half ∷ []) plain

abbrev taken_up : World
taken_up = left_by taking one_entry (settled (on taking one_entry)).outcome

pub written_met : own_part taken_up 0 ≡ 0x3f00_0000 ∷ 0 ∷ []
unfolding computing
written_met = let r = settled (on taking one_entry) in demands.first.written taking one_entry r.outcome r.allowed 0 plain half (0 ∷ 0 ∷ []) refl

pub unwritten_met : (own_part taken_up 1 ≡ 0 ∷ 0 ∷ []) × (own_part taken_up 2 ≡ 7 ∷ [])
unfolding computing
unwritten_met =
    let r = settled (on taking one_entry) in
    (demands.first.unwritten taking one_entry r.outcome r.allowed 1 refl refl, demands.first.unwritten taking one_entry r.outcome r.allowed 2 refl refl)

-- ---- the recording: what is taken so far of a part of two cells, and all of it; and its waveform, which is channel 0's
pub recording_met : (recording_of (chan (after taking one_entry) 0) (own_part (after taking one_entry) 0) ≡ 0x3f00_0000 ∷ [])
    × (recording_of (chan older 0) (own_part older 0) ≡ 0x3f00_0000 ∷ 0x3f80_0000 ∷ [])
unfolding computing
recording_met = (refl, refl)

pub waveform_met : (waveform (after taking one_entry) 1 ≡ half ∷ []) × (waveform older 2 ≡ half ∷ one32 ∷ [])
unfolding computing columns_from column_at column_of cut_of size round root_below isqrt root_of
waveform_met = (refl, refl)

-- ---- voice info in a lent list of two: channel 1's voice began at 1/4, its loop of half the recording ends at 3/4, and it has come to sample 1 of 2; the rest of the list is kept
abbrev quarter : Float
quarter = fin false 1 (negsuc 1)

abbrev halved : Params
halved = record {
  attack_samples = 0;
  decay_samples = 0;
  transport = default_transport;
  loop_length = Ratio half;
  speed = one32;
  reverse_speed = one32;
  volume = one32;
  auto_passthru = false;
  loop_mode = loop.Loop;
  note_off_behavior = off.Decay;
}

abbrev shown : World
shown = since (start quarter (key 60) one32 plain ∷ quiet plain ∷ quiet plain ∷ [])

abbrev rest : VoiceInfo
rest = record { start = two; end = two; pos = two }

pub filled_met : ((settled (on shown (asks (fill_voice_info 1 halved (rest ∷ rest ∷ []))))).outcome.answer ≡ Ok 1)
    × ((settled (on shown (asks (fill_voice_info 1 halved (rest ∷ rest ∷ []))))).outcome.lent ≡ record { start = quarter; end = fin false 3 (negsuc 1); pos = half } ∷ rest ∷ [])
unfolding computing voice_info_of get_voice_info_of
filled_met =
    let r = settled (on shown (asks (fill_voice_info 1 halved (rest ∷ rest ∷ [])))) in
    demands.first.filled shown 1 halved (rest ∷ rest ∷ []) r.outcome r.allowed refl refl

-- ---- each number of the table, given
abbrev timed : ℕ → Head → Head
timed n h = record { now = n; data_len = h.data_len; start = h.start; passthru_volume = h.passthru_volume; recorder = h.recorder; passthru_on = h.passthru_on; interpolates = h.interpolates; chosen = h.chosen }

-- channel 0's clock at its end
abbrev late : World
late = record { sampler = with_channels (with_head (timed (2 ^ 48) (chan older 0).head) (chan older 0) ∷ chan older 1 ∷ []) older.sampler; memory = older.memory }

pub numbers_met : (code older (quiet plain) ≡ 0)
    × (code older (sample 2 zero32 plain) ≡ 1)
    × (code older (stop (record { note = 60; channel = 16 }) plain) ≡ 2)
    × (code older (start nan (key 60) one32 plain) ≡ 3)
    × (code older (stop (key 60) (with 16777217 loop.Loop off.Decay)) ≡ 4)
    × (code late (quiet plain) ≡ 6)
    × (code older (asks (iter_active_notes 1 [])) ≡ 8)
    × (code (set_up 3 init cells) start_recording ≡ 9)
unfolding computing
numbers_met = (refl, refl, refl, refl, refl, refl, refl, refl)

-- those of a waveform, on either side of each edge
pub waveform_numbers_met : (code older (asks (get_waveform_summary 0 [])) ≡ 0)
    × (code older (asks (get_waveform_summary 1 (one32 ∷ []))) ≡ 0)
    × (code older (asks (get_waveform_summary 1 [])) ≡ 8)
    × (code older (asks (get_waveform_summary 4096 [])) ≡ 8)
    × (code older (asks (get_waveform_summary 4097 [])) ≡ 11)
    × (code (record { sampler = older.sampler; memory = [] }) (asks (get_waveform_summary 4097 [])) ≡ 9)
unfolding computing waveform_judged
waveform_numbers_met = (refl, refl, refl, refl, refl, refl)

-- a refused call leaves all as it was
pub held_met : left_by older (start nan (key 60) one32 plain) (settled (on older (start nan (key 60) one32 plain))).outcome ≡ older
unfolding computing
held_met =
    let g = on older (start nan (key 60) one32 plain) in
    (demands.first.held older (start nan (key 60) one32 plain) (settled g).outcome (settled g).allowed (λ e. omega arith)).0

-- ---- a run of frames

-- two entries a frame, each channel's in its place
pub run_met : (ran_of older.sampler (zero32 ∷ zero32 ∷ zero32 ∷ zero32 ∷ []) plain older.memory).frame ≡ half ∷ one32 ∷ one32 ∷ half ∷ []
unfolding computing
run_met = refl

-- set-up's record with the clocks at a and b
abbrev clocked : ℕ → ℕ → Sampler
clocked a b =
    let w = set_up 2 init cells in
    with_channels (with_head (timed a (chan w 0).head) (chan w 0) ∷ with_head (timed b (chan w 1).head) (chan w 1) ∷ []) w.sampler

abbrev answers : ℕ → Result (Unit {0}) Refusal → Ran
answers frames done = record { frames = frames; done = done }

-- as many frames as the largest clock has left; a run of no entries is done, at the clock's end too
pub run_ends_met : (run_answer (clocked (2 ^ 48 - 5) 7) 10 plain 4 ≡ answers 5 (Ok tt))
    × (run_answer (clocked (2 ^ 48 - 3) (2 ^ 48 - 3)) 10 plain 4 ≡ answers 3 (Err ClockEnd))
    × (run_answer (clocked (2 ^ 48 - 3) (2 ^ 48 - 1)) 10 plain 4 ≡ answers 1 (Err ClockEnd))
    × (run_answer (clocked (2 ^ 48 - 1) (2 ^ 48 - 3)) 10 plain 4 ≡ answers 1 (Err ClockEnd))
    × (run_answer (clocked (2 ^ 48) 0) 2 plain 4 ≡ answers 0 (Err ClockEnd))
    × (run_answer (clocked 0 0) 0 plain 4 ≡ answers 0 (Ok tt))
    × (run_answer (clocked (2 ^ 48) (2 ^ 48)) 0 plain 4 ≡ answers 0 (Ok tt))
unfolding computing
run_ends_met = (refl, refl, refl, refl, refl, refl, refl)

-- a channel that isn't in use ends no run
pub run_alone_met : run_answer (record { channels = (clocked (2 ^ 48 - 3) (2 ^ 48)).channels; count = 1; capacity = 2 }) 5 plain 4 ≡ answers 3 (Err ClockEnd)
unfolding computing
run_alone_met = refl

-- 9, then 10, then 4, then 6, each where those behind it hold too; and 10 alone
pub run_rows_met : (run_answer (clocked (2 ^ 48) 0) 3 (with 16777217 loop.Loop off.Decay) 3 ≡ answers 0 (Err Broken))
    × (run_answer (clocked (2 ^ 48) 0) 3 (with 16777217 loop.Loop off.Decay) 4 ≡ answers 0 (Err BadRun))
    × (run_answer (clocked (2 ^ 48) 0) 2 (with 16777217 loop.Loop off.Decay) 4 ≡ answers 0 (Err BeyondLimits))
    × (run_answer (clocked (2 ^ 48) 0) 0 (with 16777217 loop.Loop off.Decay) 4 ≡ answers 0 (Err BeyondLimits))
    × (run_answer (clocked 0 0) 3 plain 4 ≡ answers 0 (Err BadRun))
unfolding computing
run_rows_met = (refl, refl, refl, refl, refl)

-- the rest of the run is as it came in
pub run_rest_met : (ran_of (clocked (2 ^ 48 - 1) 0) (half ∷ half ∷ half ∷ two ∷ []) plain cells).frame ≡ zero32 ∷ zero32 ∷ half ∷ two ∷ []
unfolding computing
run_rest_met = refl

-- ---- 12/12: each channel with 32 voices, of which those marked are finished and leave in the next sample
abbrev marked : Bool → Voice
marked ends =
    let v = fresh_of plain zero32 (key 60) one32 then in
    cond ends (finish_of 2 0 v) v

abbrev let_go : List Bool → World
let_go marks =
    let w = since [] in
    let vs = map marked marks in
    record {
      sampler = with_channels (with_voices vs 32 (chan w 0) ∷ with_voices vs 32 (chan w 1) ∷ []) w.sampler;
      memory = w.memory;
    }

-- every second, n times
abbrev seconds : Bool → ℕ → List Bool
seconds ends zero = []
seconds ends (suc n) = ends ∷ not ends ∷ seconds ends n

abbrev in_sample : Params → List Bool → ℕ
in_sample p marks = (sample_of (let_go marks).sampler 1 zero32 p (let_go marks).memory).moved

abbrev in_frame : List Float → List Bool → ℕ
in_frame xs marks = frame_moved (let_go marks).sampler xs plain (let_go marks).memory

abbrev first_of32 : List Bool
first_of32 = true ∷ replicate 31 false

-- the first leaves, the last, every second from the first and from the second, all, none; refused (row 4)
pub moved_met : (in_sample plain first_of32 ≡ 31)
    × (in_sample plain (replicate 31 false ++ (true ∷ [])) ≡ 0)
    × (in_sample plain (seconds true 16) ≡ 16)
    × (in_sample plain (seconds false 16) ≡ 15)
    × (in_sample plain (replicate 32 true) ≡ 0)
    × (in_sample plain (replicate 32 false) ≡ 0)
    × (in_sample (with 16777217 loop.Loop off.Decay) first_of32 ≡ 0)
unfolding computing
moved_met = (refl, refl, refl, refl, refl, refl, refl)

-- on both channels, on one of two, and in a frame that is refused (row 1)
pub frame_moved_met : (in_frame (zero32 ∷ zero32 ∷ []) first_of32 ≡ 62) × (in_frame (zero32 ∷ []) first_of32 ≡ 31) × (in_frame (zero32 ∷ zero32 ∷ zero32 ∷ []) first_of32 ≡ 0)
unfolding computing
frame_moved_met = (refl, refl, refl)
