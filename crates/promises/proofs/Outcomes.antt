-- Each public call has one outcome that its contract allows, and no other; what it leaves and how it is judged are those that runs go by. Assumes nothing.
use mathlib.Core.Path.{◌≡◌, refl, sym, ap, ◌∙◌, subst}
use mathlib.Core.Bool.{Bool, true, false, not}
use mathlib.Core.List.{List, [], ◌∷◌}
use Prim.Native.Nat.{ℕ}
use lib.Dec.{ltb}
use lib.ListN.{length}
use lib.Ieee.{Float}
use Rattle.std.specs.Prelude.{Result, Ok, Err}
use Rattle.refusals.specs.declared.Refusal.{Refusal}
use Rattle.refusals.specs.declared.Refusal.TheVariants.{NoChannel, ShortList, Broken, TooManyColumns}
use Rattle.refusals.specs.Refusals.{code_of, row}
use Rattle.sampler.specs.declared.Sampler.{Sampler}
use Rattle.sampler.specs.declared.Answer.{Answer}
use Rattle.sampler.specs.declared.SampleAnswer.{SampleAnswer}
use Rattle.sampler.specs.Refusals.{good_sampler, good_with, no_channel, frame_judged, question_rows, channel_judged}
use Rattle.common_types.specs.declared.Params.{Params}
use Rattle.sampler.specs.Samplers.{answer_of, process_sample_of, gather_of, gather_memory, framed_of, frame_moved, ran_of, run_answer}
use Rattle.questions.specs.declared.VoiceInfos.{VoiceInfos}
use Rattle.questions.specs.Lists.{infos_counted, voice_info_counted, voice_info_after}
use Rattle.questions.specs.Questions.{print_error_info_of, error_text_after, iter_active_notes_of, active_notes_after, get_voice_info_of}
use Rattle.questions.specs.Waveforms.{waveform_judged, get_waveform_summary_of, waveform_after}
use Rattle.wave.specs.Reader.{file_judged}
use Rattle.recordings.specs.declared.ReadAnswer.{ReadAnswer}
use Rattle.recordings.specs.Waves.{given, write_judged, write_wave_of, wave_after, read_judged, read_wave_of, read_memory}
use Rattle.smf.specs.Cues as song
use Rattle.promises.specs.Runs.{
  World,
  get_frames_processed,
  get_data_len,
  is_recording,
  get_last_recorded_offset,
  print_error_info,
  iter_active_notes,
  get_voice_info,
  fill_voice_info,
  get_waveform_summary,
  write_wave,
  question_judged,
  Call,
  change,
  sample,
  frame,
  read_wave,
  gather,
  asks,
  judgement_of,
  call_judged,
  after,
  output,
  Made,
  one,
  frames,
  made,
  makes,
}
use Rattle.promises.specs.Outcomes.{Given, new, on, along, reads, plays, RunOutcome, Outcome, Allows, Settled, judged_in, left_by, world_left_along, output_in, Chain, ended, called, ran}

-- ---- one outcome
pub settled : (g : Given) → Settled g
settled (new count p m) = record { outcome = _; allowed = refl; only = λ r h. h }
settled (on w (change d)) = record { outcome = _; allowed = refl; only = λ r h. h }
settled (on w (sample j x p)) = record {
  outcome = record { answer = _; memory = _ };
  allowed = (refl, refl);
  only = λ r h t. record { answer = h.0 t; memory = h.1 t };
}
settled (on w (frame xs p)) =
    let f = framed_of w.sampler xs p w.memory in
    record {
      outcome = record {
        answer = record { sampler = f.sampler; done = frame_judged w.sampler (length xs) p (length w.memory); moved = frame_moved w.sampler xs p w.memory };
        frame = f.frame;
        memory = f.memory;
      };
      allowed = (refl, record { sampler = refl; frame = refl; memory = refl }, refl);
      only = λ r h t. record { answer = record { sampler = h.1.sampler t; done = h.0 t; moved = h.2 t }; frame = h.1.frame t; memory = h.1.memory t };
    }
settled (along w xs p) =
    let f = ran_of w.sampler xs p w.memory in
    record {
      outcome = record {
        answer = record { sampler = f.sampler; ran = run_answer w.sampler (length xs) p (length w.memory) };
        run = f.frame;
        memory = f.memory;
      };
      allowed = (refl, record { sampler = refl; frame = refl; memory = refl });
      only = λ r h t. record { answer = record { sampler = h.1.sampler t; ran = h.0 t }; run = h.1.frame t; memory = h.1.memory t };
    }
settled (reads f rate list) = record {
  outcome = record { answer = song.counted_judged f rate (length list); lent = song.list_of f rate list };
  allowed = (refl, refl);
  only = λ r h t. record { answer = h.0 t; lent = h.1 t };
}
settled (plays s list next at p) = record { outcome = _; allowed = refl; only = λ r h. h }
settled (on w (read_wave f)) = record {
  outcome = record { answer = read_wave_of w.sampler f (length w.memory); memory = read_memory w.sampler f w.memory };
  allowed = (refl, refl);
  only = λ r h t. record { answer = h.0 t; memory = h.1 t };
}
settled (on w gather) = record {
  outcome = record { answer = gather_of w.sampler w.memory; memory = gather_memory w.sampler w.memory };
  allowed = (refl, refl);
  only = λ r h t. record { answer = h.0 t; memory = h.1 t };
}
settled (on w (asks (get_frames_processed j))) = record { outcome = _; allowed = refl; only = λ r h. h }
settled (on w (asks (get_data_len j))) = record { outcome = _; allowed = refl; only = λ r h. h }
settled (on w (asks (is_recording j))) = record { outcome = _; allowed = refl; only = λ r h. h }
settled (on w (asks (get_last_recorded_offset j))) = record { outcome = _; allowed = refl; only = λ r h. h }
settled (on w (asks (print_error_info j text))) = record {
  outcome = record { answer = print_error_info_of w.sampler j (length text); lent = error_text_after w.sampler j text };
  allowed = (refl, refl);
  only = λ r h t. record { answer = h.0 t; lent = h.1 t };
}
settled (on w (asks (iter_active_notes j notes))) = record {
  outcome = record { answer = iter_active_notes_of w.sampler j (length notes); lent = active_notes_after w.sampler j notes };
  allowed = (refl, refl);
  only = λ r h t. record { answer = h.0 t; lent = h.1 t };
}
settled (on w (asks (get_voice_info j p room))) = record { outcome = _; allowed = refl; only = λ r h. h }
settled (on w (asks (fill_voice_info j p list))) = record {
  outcome = record { answer = voice_info_counted w.sampler j p list; lent = voice_info_after w.sampler j p list };
  allowed = (refl, refl);
  only = λ r h t. record { answer = h.0 t; lent = h.1 t };
}
settled (on w (asks (get_waveform_summary columns list))) = record {
  outcome = record { answer = get_waveform_summary_of w.sampler columns (length list) w.memory; lent = waveform_after w.sampler columns list w.memory };
  allowed = (refl, refl);
  only = λ r h t. record { answer = h.0 t; lent = h.1 t };
}
settled (on w (asks (write_wave rate out))) = record {
  outcome = record { answer = write_wave_of w.sampler (length out) (length w.memory); lent = wave_after w.sampler rate w.memory out };
  allowed = (refl, refl);
  only = λ r h t. record { answer = h.0 t; lent = h.1 t };
}

pub one_outcome : (g : Given) (r s : Outcome g) → Allows g r → Allows g s → r ≡ s
one_outcome g r s h k = (settled g).only r h ∙ sym ((settled g).only s k)

-- ---- how it is judged
pub judgement_code : {A : Type 0} (r : Result A Refusal) → code_of (judgement_of r) ≡ code_of r
judgement_code (Ok x) = refl
judgement_code (Err e) = refl

judgement_row : {A : Type 0} (test : Bool) (e : Refusal) (r : Result A Refusal) (done : Result (Unit {0}) Refusal) → judgement_of r ≡ done
    → judgement_of (row test e r) ≡ row test e done
judgement_row true e r done h = refl
judgement_row false e r done h = h

judgement_given : {A : Type 0} (done : Result (Unit {0}) Refusal) (x : A) → judgement_of (given done x) ≡ done
judgement_given (Ok t) x = refl
judgement_given (Err e) x = refl

-- a question of one channel
judgement_question : {A : Type 0} (s : Sampler) (j : ℕ) (x : A) → judgement_of (question_rows s j (Ok x)) ≡ channel_judged s j
unfolding channel_judged
judgement_question s j x = judgement_row (not (good_sampler s)) Broken _ _ (judgement_row (no_channel s j) NoChannel _ _ refl)

infos_judgement : (r : Result VoiceInfos Refusal) → judgement_of (infos_counted r) ≡ judgement_of r
unfolding infos_counted
infos_judgement (Ok v) = refl
infos_judgement (Err e) = refl

pub judged_code : (w : World) (c : Call) (r : Outcome (on w c)) → Allows (on w c) r → judged_in w c r ≡ call_judged w c
unfolding call_judged question_judged answer_of process_sample_of read_wave_of gather_of get_waveform_summary_of waveform_judged write_wave_of
judged_code w (change d) r h = ap (λ (a : Answer). a.done) h
judged_code w (sample j x p) r h = ap (λ (a : SampleAnswer). a.done) h.0
judged_code w (frame xs p) r h = h.0
judged_code w (read_wave f) r h = ap (λ (a : ReadAnswer). judgement_of a.read) h.0 ∙ judgement_given (read_judged w.sampler (file_judged f) (length w.memory)) _
judged_code w gather r h = ap (λ (a : Answer). a.done) h.0
judged_code w (asks (get_frames_processed j)) r h = ap judgement_of h ∙ judgement_question w.sampler j _
judged_code w (asks (get_data_len j)) r h = ap judgement_of h ∙ judgement_question w.sampler j _
judged_code w (asks (is_recording j)) r h = ap judgement_of h ∙ judgement_question w.sampler j _
judged_code w (asks (get_last_recorded_offset j)) r h = ap judgement_of h ∙ judgement_question w.sampler j _
judged_code w (asks (print_error_info j text)) r h = ap judgement_of h.0
judged_code w (asks (iter_active_notes j notes)) r h = ap judgement_of h.0
judged_code w (asks (get_voice_info j p room)) r h = ap judgement_of h
judged_code w (asks (fill_voice_info j p list)) r h = ap judgement_of h.0 ∙ infos_judgement (get_voice_info_of w.sampler j p (length list))
judged_code w (asks (get_waveform_summary columns list)) r h =
    ap judgement_of h.0
    ∙ judgement_row (not (good_with w.sampler (length w.memory))) Broken _ _ (judgement_row (ltb 4096 columns) TooManyColumns _ _ (judgement_row (ltb (length list) columns) ShortList _ _ refl))
judged_code w (asks (write_wave rate out)) r h = ap judgement_of h.0 ∙ judgement_given (write_judged w.sampler (length out) (length w.memory)) _

-- ---- the record and the memory afterwards
pub left_after : (w : World) (c : Call) (r : Outcome (on w c)) → Allows (on w c) r → left_by w c r ≡ after w c
unfolding after
left_after w (change d) r h = ap (left_by w (change d)) h
left_after w (sample j x p) r h = λ t. record { sampler = (h.0 t).sampler; memory = h.1 t }
left_after w (frame xs p) r h = λ t. record { sampler = h.1.sampler t; memory = h.1.memory t }
left_after w (read_wave f) r h = λ t. record { sampler = (h.0 t).sampler; memory = h.1 t }
left_after w gather r h = λ t. record { sampler = (h.0 t).sampler; memory = h.1 t }
left_after w (asks q) r h = refl

-- ---- the output
pub output_answered : (w : World) (c : Call) (r : Outcome (on w c)) → Allows (on w c) r → (j : ℕ) → output_in w c r j ≡ output w c j
unfolding output
output_answered w (change d) r h j = refl
output_answered w (sample i x p) r h j = ap (λ (a : SampleAnswer). a.output) h.0
output_answered w (frame xs p) r h j = λ t. output_in w (frame xs p) (record { answer = r.answer; frame = h.1.frame t; memory = r.memory }) j
output_answered w (read_wave f) r h j = refl
output_answered w gather r h j = refl
output_answered w (asks q) r h j = refl

pub left_along : (w : World) (xs : List Float) (p : Params) (r : RunOutcome) → Allows (along w xs p) r → world_left_along r ≡ made w (frames xs p)
unfolding made
left_along w xs p r h = λ t. record { sampler = h.1.sampler t; memory = h.1.memory t }

-- the contracts leave no other record and memory than `makes` gives
pub chain_makes : {w u : World} {hs : List Made} → Chain w hs u → u ≡ makes w hs
unfolding makes made
chain_makes ended = refl
chain_makes (called {w} {u} {c} {hs} r h k) = chain_makes k ∙ ap (λ (v : World). makes v hs) (left_after w c r h)
chain_makes (ran {w} {u} {xs} {p} {hs} r h k) = chain_makes k ∙ ap (λ (v : World). makes v hs) (left_along w xs p r h)

-- and they do leave that
pub makes_chain : (w : World) (hs : List Made) → Chain w hs (makes w hs)
unfolding makes made
makes_chain w [] = ended
makes_chain w (one c ∷ hs) =
    let s = settled (on w c) in
    called s.outcome s.allowed (subst (λ (v : World). Chain v hs (makes (after w c) hs)) (sym (left_after w c s.outcome s.allowed)) (makes_chain (after w c) hs))
makes_chain w (frames xs p ∷ hs) =
    let s = settled (along w xs p) in
    ran s.outcome s.allowed
    (subst (λ (v : World). Chain v hs (makes (made w (frames xs p)) hs)) (sym (left_along w xs p s.outcome s.allowed)) (makes_chain (made w (frames xs p)) hs))
