-- The names that the demands are written in, and where each stands. Definitions only. Assumes nothing.
pub use Rattle.std.specs.Prelude.{◌≡◌, Bool, true, false, not, ◌⊎◌, ◌≢◌, ◌↔◌, List, [], ◌∷◌, ◌++◌, map, ℕ, suc, ◌+◌, ◌-◌, ◌*◌, ◌/◌, ◌%◌, ◌^◌, ◌≤◌, ◌<◌, min, max, T, eqb, ltb, length, take, drop, ℤ, Float, Result, Some, Ok}
pub use Rattle.std.proofs.Math.Option.{some}
pub use Rattle.std.specs.Float.{nan, fin, binary32}
pub use Rattle.std.specs.Float.Ieee.{up, down, add, sub, mul, div, eq, le, is_nan, fits}
pub use Rattle.std.specs.Float.Ieee.Exact.{HasValue}
pub use Rattle.std.specs.Float.Ieee.Scale.{finite}
pub use Rattle.std.specs.Float.Ieee.Positive.{positive}
pub use Rattle.std.specs.List.{list_any}
pub use Rattle.walks.specs.Each.{Each}
pub use Rattle.refusals.specs.declared.Refusal.{Refusal}
pub use Rattle.refusals.specs.Refusals.{code_of}
pub use Rattle.binary32.specs.Leaves.{as_float, as_whole, floor_of, min_of, max_of, bits_of, float_of, root_of, zero32}
pub use Rattle.binary32.specs.Roots.{NearestRoot}
pub use Rattle.common_types.specs.declared.InitParams.{InitParams}
pub use Rattle.common_types.specs.declared.Params.{Params}
pub use Rattle.common_types.specs.declared.Note.{Note}
pub use Rattle.common_types.specs.declared.time_value.TimeValue.TheVariants.{Bars}
pub use Rattle.common_types.specs.declared.time_value.TimeOrRatio.TheVariants.{WholeBars}
pub use Rattle.common_types.specs.Times.{as_samples_of}
pub use Rattle.common_types.specs.Notes.{into_u64_of, from_u64_of}
pub use Rattle.common_types.specs.Settings.{beyond_limits, loop_length_of}
pub use Rattle.recorder.specs.ErrorText.{error_text}
pub use Rattle.volume.specs.Levels.{level_of}
pub use Rattle.clip.specs.declared.Clip.{Clip}
pub use Rattle.clip.specs.declared.Mode.{Mode}
pub use Rattle.clip.specs.Positions.{elapsed_at, clip_offset_at, offset_at, position_at, index_at, next_at}
pub use Rattle.clip.specs.Updates.{
  at_speed,
  at_mode,
  at_length,
  back_of,
  found_at,
  same_mode,
  with_speed,
  with_mode,
  with_length,
  with_data_length,
  with_all,
}
pub use Rattle.clip.specs.Refusals.{data_to_clip_of, update_all_of, four_of}
pub use Rattle.clip.specs.Bounds.{Sound, Inside, Within, AddsUp}
pub use Rattle.clip.specs.Plain.{PlainClip, plain_index, plain_at}
pub use Rattle.voice.specs.declared.Voice.{Voice}
pub use Rattle.voice.specs.declared.Tick.{Tick}
pub use Rattle.voice.specs.Voices.{moved_of, recorded_value_of, value_of, fresh_of, at_speed_of}
pub use Rattle.channel.specs.declared.Channel.{Channel}
pub use Rattle.channel.specs.Heads.{moment_of}
pub use Rattle.channel.specs.Channels.{live, full_of, memory_of, recording_of, phrase_at, heard_sum}
pub use Rattle.sampler.specs.declared.Answer.{Answer}
pub use Rattle.sampler.specs.Samplers.{ran_of}
pub use Rattle.sampler.specs.Soundness.{FittingSampler}
pub use Rattle.voice.specs.Soundness.{FittingParams}
pub use Rattle.sampler.specs.Refusals.{
  channel_at,
  good_sizes,
  good_sampler,
  capacity_of,
  good_with,
  no_channel,
  bad_note,
  bad_position,
  any_full,
  at_end,
  set_up_number,
  frames_left,
  run_number,
}
pub use Rattle.questions.specs.declared.VoiceInfo.{VoiceInfo}
pub use Rattle.questions.specs.declared.VoiceInfos.{VoiceInfos}
pub use Rattle.questions.specs.Questions.{recorder_at, notes_of, voice_info_of}
pub use Rattle.questions.specs.Waveforms.{cut_of, column_of, columns_of, smallest_of, largest_of, summary_with}
pub use Rattle.fates.specs.Engine.{born_of, held_at, turns_in, step_of}
pub use Rattle.fates.specs.Events.{act, sounds, length_at, is_sample, empty_at, tick_at, decay_of}
pub use Rattle.fates.specs.Places.{voice_at, at, gone, follow, becomes, follow_all, added_by, finishes, stopped_in, finished_in}
pub use Rattle.fates.specs.Sounding.{term_of, terms_of, total_of}
pub use Rattle.fates.specs.Steady.{altered_in}
pub use Rattle.promises.specs.Runs.{
  World,
  set_up,
  Question,
  get_frames_processed,
  get_data_len,
  is_recording,
  get_last_recorded_offset,
  print_error_info,
  iter_active_notes,
  get_voice_info,
  fill_voice_info,
  get_waveform_summary,
  Call,
  start,
  stop,
  speed,
  start_recording,
  stop_recording,
  set_interpolation,
  reset,
  sample,
  frame,
  asks,
  call_judged,
  code,
  row,
  after,
  run,
  chan,
  own_part,
  event,
  events,
  setting_in,
  is_reset_call,
  rewrites,
  output,
  final,
  before,
  FittingCall,
  Made,
  frames,
  frames_done,
  spread,
  made,
  makes,
  spread_all,
  played_by,
  Accepted,
  FittingMade,
}
pub use Rattle.promises.specs.Recordings.{Recordings}
pub use Rattle.promises.specs.Tidies.{up_in, sum_from, places_of, taken_away}
pub use Rattle.promises.specs.Outcomes.{
  Given,
  new,
  on,
  along,
  SampleOutcome,
  FrameOutcome,
  RunOutcome,
  InfoOutcome,
  WaveformOutcome,
  Outcome,
  Allows,
  Settled,
  judged_in,
  number_in,
  left_by,
  world_left_along,
  output_in,
  Untouched,
  Chain,
}
pub use Rattle.promises.specs.Table.{TableHolds}
pub use Rattle.promises.specs.Broken.{RowNine}
pub use Rattle.promises.specs.Rows.{RowTests}
pub use Rattle.promises.specs.SmallParts.{RowSeven}
pub use Rattle.promises.specs.Phrases.{Phrases, Eight, Base}
