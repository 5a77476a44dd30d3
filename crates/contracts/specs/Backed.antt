-- Every call of the second engine (request 9/12), on a record and a backing that its host lends, leaves of record, memory
-- and answer what the call by value may leave, and of the backing what is said of it. It is said of the functions of
-- plain_sampler/src/lib.rt themselves, as they run (`Lent.antt`). `proofs/Backed: backed` proves it. Definitions only.
-- Assumes nothing.
use Rattle.std.specs.Prelude.{◌≡◌, ℕ, List}
use Rattle.channel.specs.declared.Change.TheVariants.{Start, Stop, Speed, Head, Reset}
use Rattle.channel.specs.declared.HeadChange.TheVariants.{StartRecording, StopRecording, Interpolate, Choose, Delete}
use Rattle.promises.specs.Runs.{
  change,
  start,
  stop,
  speed,
  start_recording,
  stop_recording,
  set_interpolation,
  choose_phrase,
  delete_phrase,
  reset,
  sample,
  frame,
}
use Rattle.lent_sampler.specs.Hearing.{done_in, heard_in, moved_in}
use Rattle.promises.specs.Outcomes.{on, along, Allows}
use Rattle.plain_sampler.specs.Backings.{change_backing, sample_backing, frame_backing, run_backing}
use Rattle.plain_sampler.specs.contracts.change as change_call
use Rattle.plain_sampler.proofs.change.Symbol as change_code
use Rattle.plain_sampler.specs.contracts.start_playing as start_playing
use Rattle.plain_sampler.proofs.start_playing.Symbol as start_playing_code
use Rattle.plain_sampler.specs.contracts.stop_playing as stop_playing
use Rattle.plain_sampler.proofs.stop_playing.Symbol as stop_playing_code
use Rattle.plain_sampler.specs.contracts.set_note_speed as set_note_speed
use Rattle.plain_sampler.proofs.set_note_speed.Symbol as set_note_speed_code
use Rattle.plain_sampler.specs.contracts.start_recording as start_recording_lem
use Rattle.plain_sampler.proofs.start_recording.Symbol as start_recording_code
use Rattle.plain_sampler.specs.contracts.stop_recording as stop_recording_lem
use Rattle.plain_sampler.proofs.stop_recording.Symbol as stop_recording_code
use Rattle.plain_sampler.specs.contracts.set_interpolation as set_interpolation_lem
use Rattle.plain_sampler.proofs.set_interpolation.Symbol as set_interpolation_code
use Rattle.plain_sampler.specs.contracts.choose_phrase as choose_phrase_lem
use Rattle.plain_sampler.proofs.choose_phrase.Symbol as choose_phrase_code
use Rattle.plain_sampler.specs.contracts.delete_phrase as delete_phrase_lem
use Rattle.plain_sampler.proofs.delete_phrase.Symbol as delete_phrase_code
use Rattle.plain_sampler.specs.contracts.reset as reset_call
use Rattle.plain_sampler.proofs.reset.Symbol as reset_code
use Rattle.plain_sampler.specs.contracts.process_sample as process_sample
use Rattle.plain_sampler.proofs.process_sample.Symbol as process_sample_code
use Rattle.plain_sampler.specs.contracts.process_frame as process_frame
use Rattle.plain_sampler.proofs.process_frame.Symbol as process_frame_code
use Rattle.plain_sampler.specs.contracts.process_frames as process_frames
use Rattle.plain_sampler.proofs.process_frames.Symbol as process_frames_code
use Rattle.contracts.specs.Lent.{Ensures, lying, answer}

-- m is the memory that lies beside the record; only a sample, a frame and a run of frames are lent it
pub record Backed (m : List ℕ) : Type 2 where
  pub change : Ensures change_call.ended change_code.code change_code.name
      (λ κs (s, (k, (d, _))) r (left, (beside, _)).
      Allows (on (lying s.now m) (change d)) (answer left.now r)
      × (beside.now ≡ change_backing s.now d k.now))
  pub start_playing : Ensures start_playing.ended start_playing_code.code start_playing_code.name
      (λ κs (s, (k, (position, (note, (velocity, (params, _)))))) r (left, (beside, _)).
      Allows (on (lying s.now m) (start position note velocity params)) (answer left.now r)
      × (beside.now ≡ change_backing s.now (Start params position note velocity) k.now))
  pub stop_playing : Ensures stop_playing.ended stop_playing_code.code stop_playing_code.name
      (λ κs (s, (k, (note, (params, _)))) r (left, (beside, _)).
      Allows (on (lying s.now m) (stop note params)) (answer left.now r)
      × (beside.now ≡ change_backing s.now (Stop params note) k.now))
  pub set_note_speed : Ensures set_note_speed.ended set_note_speed_code.code set_note_speed_code.name
      (λ κs (s, (k, (note, (rate, _)))) r (left, (beside, _)).
      Allows (on (lying s.now m) (speed note rate)) (answer left.now r)
      × (beside.now ≡ change_backing s.now (Speed note rate) k.now))
  pub start_recording_lem : Ensures start_recording_lem.ended start_recording_code.code start_recording_code.name
      (λ κs (s, (k, _)) r (left, (beside, _)).
      Allows (on (lying s.now m) start_recording) (answer left.now r)
      × (beside.now ≡ change_backing s.now (Head StartRecording) k.now))
  pub stop_recording_lem : Ensures stop_recording_lem.ended stop_recording_code.code stop_recording_code.name
      (λ κs (s, (k, _)) r (left, (beside, _)).
      Allows (on (lying s.now m) stop_recording) (answer left.now r)
      × (beside.now ≡ change_backing s.now (Head StopRecording) k.now))
  pub set_interpolation_lem : Ensures set_interpolation_lem.ended set_interpolation_code.code set_interpolation_code.name
      (λ κs (s, (k, (smooth, _))) r (left, (beside, _)).
      Allows (on (lying s.now m) (set_interpolation smooth)) (answer left.now r)
      × (beside.now ≡ change_backing s.now (Head (Interpolate smooth)) k.now))
  pub choose_phrase_lem : Ensures choose_phrase_lem.ended choose_phrase_code.code choose_phrase_code.name
      (λ κs (s, (k, (phrase, _))) r (left, (beside, _)).
      Allows (on (lying s.now m) (choose_phrase phrase)) (answer left.now r)
      × (beside.now ≡ change_backing s.now (Head (Choose phrase)) k.now))
  pub delete_phrase_lem : Ensures delete_phrase_lem.ended delete_phrase_code.code delete_phrase_code.name
      (λ κs (s, (k, (phrase, _))) r (left, (beside, _)).
      Allows (on (lying s.now m) (delete_phrase phrase)) (answer left.now r)
      × (beside.now ≡ change_backing s.now (Head (Delete phrase)) k.now))
  pub reset : Ensures reset_call.ended reset_code.code reset_code.name
      (λ κs (s, (k, _)) r (left, (beside, _)).
      Allows (on (lying s.now m) reset) (answer left.now r)
      × (beside.now ≡ change_backing s.now Reset k.now))
  pub process_sample : Ensures process_sample.ended process_sample_code.code process_sample_code.name
      (λ κs (s, (k, (channel, (input, (params, (memory, _)))))) r (left, (beside, (_, (_, (_, (written, _)))))).
      Allows (on (lying s.now memory.now) (sample channel input params))
      (record {
        answer = record { sampler = left.now; output = (heard_in r).output; done = done_in r; moved = (heard_in r).moved };
        memory = written.now;
      })
      × (beside.now ≡ sample_backing s.now channel input params memory.now k.now))
  pub process_frame : Ensures process_frame.ended process_frame_code.code process_frame_code.name
      (λ κs (s, (k, (entries, (params, (memory, _))))) r (left, (beside, (played, (_, (written, _))))).
      Allows (on (lying s.now memory.now) (frame entries.now params))
      (record {
        answer = record { sampler = left.now; done = done_in r; moved = moved_in r };
        frame = played.now;
        memory = written.now;
      })
      × (beside.now ≡ frame_backing s.now entries.now params memory.now k.now))
  pub process_frames : Ensures process_frames.ended process_frames_code.code process_frames_code.name
      (λ κs (s, (k, (entries, (params, (memory, _))))) r (left, (beside, (played, (_, (written, _))))).
      Allows (along (lying s.now memory.now) entries.now params)
      (record { answer = record { sampler = left.now; ran = r }; run = played.now; memory = written.now })
      × (beside.now ≡ run_backing s.now entries.now params memory.now k.now))
