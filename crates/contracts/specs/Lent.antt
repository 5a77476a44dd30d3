-- Every call on a record that its host lends leaves what the call by value may leave: `Allows`, with the record at the
-- end for the one that is handed back. It is said of the functions of lent_sampler/src/lib.rt themselves, as they run.
-- `proofs/Lent: lent` proves it. Definitions only. Assumes nothing.
use Rattle.std.specs.Prelude.{ℕ, ◌≡◌, List, Result}
use seplogic.Ra.Ura.{Ura}
use base.Logic.{emp}
use mir.Syntax.{Callee}
use prog.Model.{Model}
use prog.Wired.{Code, Wired}
use types.Logic.{Logic}
use contract.Lifetimes.{Lfts}
use contract.Monad.{fact}
use contract.Running.{Running}
use denote.Triple.Entry.{Args, Res}
use denote.Triple.Spec.{Meets}
use denote.Triple.Clauses.{Ended, AtExit, closing}
use Rattle.refusals.specs.declared.Refusal.{Refusal}
use Rattle.sampler.specs.declared.Sampler.{Sampler}
use Rattle.sampler.specs.declared.Answer.{Answer}
use Rattle.promises.specs.Runs.{
  World,
  get_frames_processed,
  get_data_len,
  is_recording,
  get_last_recorded_offset,
  print_error_info,
  iter_active_notes,
  fill_voice_info,
  get_waveform_summary,
  write_wave,
  change,
  start,
  stop,
  speed,
  start_recording,
  stop_recording,
  set_interpolation,
  choose_phrase,
  delete_phrase,
  reset,
  sample,
  frame,
  read_wave,
  gather,
  asks,
}
use Rattle.lent_sampler.specs.Hearing.{done_in, heard_in, moved_in}
use Rattle.promises.specs.Outcomes.{on, along, plays, Allows}
use Rattle.lent_sampler.specs.contracts.start_playing as start_playing
use Rattle.lent_sampler.proofs.start_playing.Symbol as start_playing_code
use Rattle.lent_sampler.specs.contracts.stop_playing as stop_playing
use Rattle.lent_sampler.proofs.stop_playing.Symbol as stop_playing_code
use Rattle.lent_sampler.specs.contracts.set_note_speed as set_note_speed
use Rattle.lent_sampler.proofs.set_note_speed.Symbol as set_note_speed_code
use Rattle.lent_sampler.specs.contracts.start_recording as start_recording_lem
use Rattle.lent_sampler.proofs.start_recording.Symbol as start_recording_code
use Rattle.lent_sampler.specs.contracts.stop_recording as stop_recording_lem
use Rattle.lent_sampler.proofs.stop_recording.Symbol as stop_recording_code
use Rattle.lent_sampler.specs.contracts.set_interpolation as set_interpolation_lem
use Rattle.lent_sampler.proofs.set_interpolation.Symbol as set_interpolation_code
use Rattle.lent_sampler.specs.contracts.choose_phrase as choose_phrase_lem
use Rattle.lent_sampler.proofs.choose_phrase.Symbol as choose_phrase_code
use Rattle.lent_sampler.specs.contracts.delete_phrase as delete_phrase_lem
use Rattle.lent_sampler.proofs.delete_phrase.Symbol as delete_phrase_code
use Rattle.lent_sampler.specs.contracts.reset as reset
use Rattle.lent_sampler.proofs.reset.Symbol as reset_code
use Rattle.lent_sampler.specs.contracts.change as change_call
use Rattle.lent_sampler.proofs.change.Symbol as change_code
use Rattle.lent_sampler.specs.contracts.gather as gather_call
use Rattle.lent_sampler.proofs.gather.Symbol as gather_code
use Rattle.lent_sampler.specs.contracts.process_sample as process_sample
use Rattle.lent_sampler.proofs.process_sample.Symbol as process_sample_code
use Rattle.lent_sampler.specs.contracts.process_frame as process_frame
use Rattle.lent_sampler.proofs.process_frame.Symbol as process_frame_code
use Rattle.lent_sampler.specs.contracts.process_frames as process_frames
use Rattle.lent_sampler.proofs.process_frames.Symbol as process_frames_code
use Rattle.lent_sampler.specs.contracts.get_frames_processed as get_frames_processed_lem
use Rattle.lent_sampler.proofs.get_frames_processed.Symbol as get_frames_processed_code
use Rattle.lent_sampler.specs.contracts.get_data_len as get_data_len_lem
use Rattle.lent_sampler.proofs.get_data_len.Symbol as get_data_len_code
use Rattle.lent_sampler.specs.contracts.is_recording as is_recording_lem
use Rattle.lent_sampler.proofs.is_recording.Symbol as is_recording_code
use Rattle.lent_sampler.specs.contracts.get_last_recorded_offset as get_last_recorded_offset_lem
use Rattle.lent_sampler.proofs.get_last_recorded_offset.Symbol as get_last_recorded_offset_code
use Rattle.lent_sampler.specs.contracts.print_error_info as print_error_info_lem
use Rattle.lent_sampler.proofs.print_error_info.Symbol as print_error_info_code
use Rattle.lent_sampler.specs.contracts.iter_active_notes as iter_active_notes_lem
use Rattle.lent_sampler.proofs.iter_active_notes.Symbol as iter_active_notes_code
use Rattle.lent_sampler.specs.contracts.get_voice_info as get_voice_info
use Rattle.lent_sampler.proofs.get_voice_info.Symbol as get_voice_info_code
use Rattle.lent_sampler.specs.contracts.get_waveform_summary as get_waveform_summary_lem
use Rattle.lent_sampler.proofs.get_waveform_summary.Symbol as get_waveform_summary_code
use Rattle.lent_sampler.specs.contracts.write_wave as write_wave_lem
use Rattle.lent_sampler.proofs.write_wave.Symbol as write_wave_code
use Rattle.lent_sampler.specs.contracts.read_wave as read_wave_lem
use Rattle.lent_sampler.proofs.read_wave.Symbol as read_wave_code
use Rattle.lent_songs.specs.contracts.play as play_song
use Rattle.lent_songs.proofs.play.Symbol as play_song_code

-- The function of that code and name, whatever it is given, is safe, ends, and then Q holds of its arguments, its
-- result, and what its arguments are at the end. It is what the check states of a function with no `requires` and Q for
-- its `ensures`: of a run in an environment that has its code and that of all that it names.
abbrev pub Ensures : (T : Ended) → Code → Callee
    → ((κs : Lfts T.signature.lifetimes) → Args T.signature κs → Res T.signature κs → AtExit T κs → Type 0)
    → Type 2
Ensures T code name Q = (M : Type 1) (𝓤 : Ura M) (𝓛 : Logic 𝓤) (𝓜 : Model 𝓤 𝓛.H) (𝓡 : Running 𝓤 𝓛.H 𝓜)
    → Wired 𝓡.env code
    → Meets 𝓛 T.signature (𝓡.run (𝓡.env name))
    (closing 𝓛 T
    (λ κs a. record { ghost = Unit {0}; requires = λ _. emp 𝓤; ensures = λ _ r e. fact 𝓤 (Q κs a r e) }))

abbrev pub lying : Sampler → List ℕ → World
lying s m = record { sampler = s; memory = m }

abbrev pub answer : Sampler → Result (Unit {0}) Refusal → Answer
answer s done = record { sampler = s; done = done }

-- m is the memory that lies beside the record; only a gather, a sample, a frame, a run of frames, a waveform and a file
-- are lent it
pub record Lent (m : List ℕ) : Type 2 where
  pub change : Ensures change_call.ended change_code.code change_code.name
      (λ κs (s, (d, _)) r (left, _). Allows (on (lying s.now m) (change d)) (answer left.now r))
  pub start_playing : Ensures start_playing.ended start_playing_code.code start_playing_code.name
      (λ κs (s, (position, (note, (velocity, (params, _))))) r (left, _).
      Allows (on (lying s.now m) (start position note velocity params)) (answer left.now r))
  pub stop_playing : Ensures stop_playing.ended stop_playing_code.code stop_playing_code.name
      (λ κs (s, (note, (params, _))) r (left, _). Allows (on (lying s.now m) (stop note params))
      (answer left.now r))
  pub set_note_speed : Ensures set_note_speed.ended set_note_speed_code.code set_note_speed_code.name
      (λ κs (s, (note, (rate, _))) r (left, _). Allows (on (lying s.now m) (speed note rate)) (answer left.now r))
  pub start_recording_lem : Ensures start_recording_lem.ended start_recording_code.code start_recording_code.name
      (λ κs (s, _) r (left, _). Allows (on (lying s.now m) start_recording) (answer left.now r))
  pub stop_recording_lem : Ensures stop_recording_lem.ended stop_recording_code.code stop_recording_code.name
      (λ κs (s, _) r (left, _). Allows (on (lying s.now m) stop_recording) (answer left.now r))
  pub set_interpolation_lem : Ensures set_interpolation_lem.ended set_interpolation_code.code set_interpolation_code.name
      (λ κs (s, (smooth, _)) r (left, _). Allows (on (lying s.now m) (set_interpolation smooth)) (answer left.now r))
  pub choose_phrase_lem : Ensures choose_phrase_lem.ended choose_phrase_code.code choose_phrase_code.name
      (λ κs (s, (phrase, _)) r (left, _). Allows (on (lying s.now m) (choose_phrase phrase)) (answer left.now r))
  pub delete_phrase_lem : Ensures delete_phrase_lem.ended delete_phrase_code.code delete_phrase_code.name
      (λ κs (s, (phrase, _)) r (left, _). Allows (on (lying s.now m) (delete_phrase phrase)) (answer left.now r))
  pub reset : Ensures reset.ended reset_code.code reset_code.name
      (λ κs (s, _) r (left, _). Allows (on (lying s.now m) reset) (answer left.now r))
  pub gather : Ensures gather_call.ended gather_code.code gather_code.name
      (λ κs (s, (memory, _)) r (left, (written, _)).
      Allows (on (lying s.now memory.now) gather)
      (record { answer = answer left.now r; memory = written.now }))
  pub process_sample : Ensures process_sample.ended process_sample_code.code process_sample_code.name
      (λ κs (s, (channel, (input, (params, (memory, _))))) r (left, (_, (_, (_, (written, _))))).
      Allows (on (lying s.now memory.now) (sample channel input params))
      (record {
        answer = record { sampler = left.now; output = (heard_in r).output; done = done_in r; moved = (heard_in r).moved };
        memory = written.now;
      }))
  pub process_frame : Ensures process_frame.ended process_frame_code.code process_frame_code.name
      (λ κs (s, (entries, (params, (memory, _)))) r (left, (played, (_, (written, _)))).
      Allows (on (lying s.now memory.now) (frame entries.now params))
      (record {
        answer = record { sampler = left.now; done = done_in r; moved = moved_in r };
        frame = played.now;
        memory = written.now;
      }))
  pub process_frames : Ensures process_frames.ended process_frames_code.code process_frames_code.name
      (λ κs (s, (entries, (params, (memory, _)))) r (left, (played, (_, (written, _)))).
      Allows (along (lying s.now memory.now) entries.now params)
      (record { answer = record { sampler = left.now; ran = r }; run = played.now; memory = written.now }))
  pub get_frames_processed_lem : Ensures get_frames_processed_lem.ended get_frames_processed_code.code get_frames_processed_code.name
      (λ κs (s, (channel, _)) r _. Allows (on (lying s.now m) (asks (get_frames_processed channel))) r)
  pub get_data_len_lem : Ensures get_data_len_lem.ended get_data_len_code.code get_data_len_code.name
      (λ κs (s, (channel, _)) r _. Allows (on (lying s.now m) (asks (get_data_len channel))) r)
  pub is_recording_lem : Ensures is_recording_lem.ended is_recording_code.code is_recording_code.name
      (λ κs (s, (channel, _)) r _. Allows (on (lying s.now m) (asks (is_recording channel))) r)
  pub get_last_recorded_offset_lem : Ensures get_last_recorded_offset_lem.ended get_last_recorded_offset_code.code get_last_recorded_offset_code.name
      (λ κs (s, (channel, _)) r _. Allows (on (lying s.now m) (asks (get_last_recorded_offset channel))) r)
  pub print_error_info_lem : Ensures print_error_info_lem.ended print_error_info_code.code print_error_info_code.name
      (λ κs (s, (channel, (text, _))) r (_, (_, (written, _))).
      Allows (on (lying s.now m) (asks (print_error_info channel text.now)))
      (record { answer = r; lent = written.now }))
  pub iter_active_notes_lem : Ensures iter_active_notes_lem.ended iter_active_notes_code.code iter_active_notes_code.name
      (λ κs (s, (channel, (notes, _))) r (_, (_, (written, _))).
      Allows (on (lying s.now m) (asks (iter_active_notes channel notes.now)))
      (record { answer = r; lent = written.now }))
  pub get_voice_info : Ensures get_voice_info.ended get_voice_info_code.code get_voice_info_code.name
      (λ κs (s, (channel, (params, (list, _)))) r (_, (_, (_, (filled, _)))).
      Allows (on (lying s.now m) (asks (fill_voice_info channel params list.now)))
      (record { answer = r; lent = filled.now }))
  pub get_waveform_summary_lem : Ensures get_waveform_summary_lem.ended get_waveform_summary_code.code get_waveform_summary_code.name
      (λ κs (s, (columns, (list, (memory, _)))) r (_, (_, (filled, _))).
      Allows (on (lying s.now memory.now) (asks (get_waveform_summary columns list.now)))
      (record { answer = r; lent = filled.now }))
  pub write_wave_lem : Ensures write_wave_lem.ended write_wave_code.code write_wave_code.name
      (λ κs (s, (rate, (memory, (out, _)))) r (_, (_, (_, (filled, _)))).
      Allows (on (lying s.now memory.now) (asks (write_wave rate out.now)))
      (record { answer = r; lent = filled.now }))
  pub read_wave_lem : Ensures read_wave_lem.ended read_wave_code.code read_wave_code.name
      (λ κs (s, (file, (memory, _))) r (left, (_, (written, _))).
      Allows (on (lying s.now memory.now) (read_wave file.now))
      (record { answer = record { sampler = left.now; read = r }; memory = written.now }))
  -- what is due of a song, as the player by value plays it
  pub play_song : Ensures play_song.ended play_song_code.code play_song_code.name
      (λ κs (s, (list, (next, (at, (params, _))))) r (left, _).
      Allows (plays s.now list.now next at params)
      (record { sampler = left.now; next = r.next; refused = r.refused }))
