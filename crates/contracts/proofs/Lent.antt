-- What each lent call ensures is its own theorem: its contract says the same of the same definitions. Assumes nothing.
use Prim.Native.Nat.{ℕ}
use mathlib.Core.List.{List}
use Rattle.lent_sampler.proofs.start_playing.Met as start_playing_thm
use Rattle.lent_sampler.proofs.stop_playing.Met as stop_playing_thm
use Rattle.lent_sampler.proofs.set_note_speed.Met as set_note_speed_thm
use Rattle.lent_sampler.proofs.start_recording.Met as start_recording_thm
use Rattle.lent_sampler.proofs.stop_recording.Met as stop_recording_thm
use Rattle.lent_sampler.proofs.set_interpolation.Met as set_interpolation_thm
use Rattle.lent_sampler.proofs.choose_phrase.Met as choose_phrase_thm
use Rattle.lent_sampler.proofs.delete_phrase.Met as delete_phrase_thm
use Rattle.lent_sampler.proofs.reset.Met as reset_thm
use Rattle.lent_sampler.proofs.change.Met as change_thm
use Rattle.lent_sampler.proofs.gather.Met as gather_thm
use Rattle.lent_sampler.proofs.process_sample.Met as process_sample_thm
use Rattle.lent_sampler.proofs.process_frame.Met as process_frame_thm
use Rattle.lent_sampler.proofs.process_frames.Met as process_frames_thm
use Rattle.lent_sampler.proofs.get_frames_processed.Met as get_frames_processed_thm
use Rattle.lent_sampler.proofs.get_data_len.Met as get_data_len_thm
use Rattle.lent_sampler.proofs.is_recording.Met as is_recording_thm
use Rattle.lent_sampler.proofs.get_last_recorded_offset.Met as get_last_recorded_offset_thm
use Rattle.lent_sampler.proofs.print_error_info.Met as print_error_info_thm
use Rattle.lent_sampler.proofs.iter_active_notes.Met as iter_active_notes_thm
use Rattle.lent_sampler.proofs.get_voice_info.Met as get_voice_info_thm
use Rattle.lent_sampler.proofs.get_waveform_summary.Met as get_waveform_summary_thm
use Rattle.lent_sampler.proofs.write_wave.Met as write_wave_thm
use Rattle.lent_sampler.proofs.read_wave.Met as read_wave_thm
use Rattle.lent_songs.proofs.play.Met as play_song_thm
use Rattle.contracts.specs.Lent.{Lent}

pub lent : (m : List ℕ) → Lent m
lent m = record {
  start_playing = λ M. start_playing_thm.met;
  stop_playing = λ M. stop_playing_thm.met;
  set_note_speed = λ M. set_note_speed_thm.met;
  start_recording_lem = λ M. start_recording_thm.met;
  stop_recording_lem = λ M. stop_recording_thm.met;
  set_interpolation_lem = λ M. set_interpolation_thm.met;
  choose_phrase_lem = λ M. choose_phrase_thm.met;
  delete_phrase_lem = λ M. delete_phrase_thm.met;
  reset = λ M. reset_thm.met;
  change = λ M. change_thm.met;
  gather = λ M. gather_thm.met;
  process_sample = λ M. process_sample_thm.met;
  process_frame = λ M. process_frame_thm.met;
  process_frames = λ M. process_frames_thm.met;
  get_frames_processed_lem = λ M. get_frames_processed_thm.met;
  get_data_len_lem = λ M. get_data_len_thm.met;
  is_recording_lem = λ M. is_recording_thm.met;
  get_last_recorded_offset_lem = λ M. get_last_recorded_offset_thm.met;
  print_error_info_lem = λ M. print_error_info_thm.met;
  iter_active_notes_lem = λ M. iter_active_notes_thm.met;
  get_voice_info = λ M. get_voice_info_thm.met;
  get_waveform_summary_lem = λ M. get_waveform_summary_thm.met;
  write_wave_lem = λ M. write_wave_thm.met;
  read_wave_lem = λ M. read_wave_thm.met;
  play_song = λ M. play_song_thm.met;
}
