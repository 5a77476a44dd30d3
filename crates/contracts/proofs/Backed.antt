-- What each call of the second engine ensures is its own theorem: its contract says the same of the same definitions. Assumes nothing.
use Prim.Native.Nat.{ℕ}
use mathlib.Core.List.{List}
use Rattle.plain_sampler.proofs.change.Met as change_thm
use Rattle.plain_sampler.proofs.start_playing.Met as start_playing_thm
use Rattle.plain_sampler.proofs.stop_playing.Met as stop_playing_thm
use Rattle.plain_sampler.proofs.set_note_speed.Met as set_note_speed_thm
use Rattle.plain_sampler.proofs.start_recording.Met as start_recording_thm
use Rattle.plain_sampler.proofs.stop_recording.Met as stop_recording_thm
use Rattle.plain_sampler.proofs.set_interpolation.Met as set_interpolation_thm
use Rattle.plain_sampler.proofs.choose_phrase.Met as choose_phrase_thm
use Rattle.plain_sampler.proofs.delete_phrase.Met as delete_phrase_thm
use Rattle.plain_sampler.proofs.reset.Met as reset_thm
use Rattle.plain_sampler.proofs.process_sample.Met as process_sample_thm
use Rattle.plain_sampler.proofs.process_frame.Met as process_frame_thm
use Rattle.plain_sampler.proofs.process_frames.Met as process_frames_thm
use Rattle.contracts.specs.Backed.{Backed}

pub backed : (m : List ℕ) → Backed m
backed m = record {
  change = λ M. change_thm.met;
  start_playing = λ M. start_playing_thm.met;
  stop_playing = λ M. stop_playing_thm.met;
  set_note_speed = λ M. set_note_speed_thm.met;
  start_recording_lem = λ M. start_recording_thm.met;
  stop_recording_lem = λ M. stop_recording_thm.met;
  set_interpolation_lem = λ M. set_interpolation_thm.met;
  choose_phrase_lem = λ M. choose_phrase_thm.met;
  delete_phrase_lem = λ M. delete_phrase_thm.met;
  reset = λ M. reset_thm.met;
  process_sample = λ M. process_sample_thm.met;
  process_frame = λ M. process_frame_thm.met;
  process_frames = λ M. process_frames_thm.met;
}
