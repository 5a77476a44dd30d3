-- No record that set-up and calls reach is broken, what a voice sounds by is recorded, and a start that nothing refuses is accepted. Assumes nothing.
use mathlib.Core.Path.{◌≡◌, refl, sym, ap, ◌∙◌, subst}
use mathlib.Core.Logic.{◌≢◌}
use mathlib.Core.Bool.{Bool, true, false, not}
use mathlib.Core.List.{List, [], ◌∷◌}
use Prim.Native.Nat.{ℕ, ◌/◌, ◌%◌, ◌^◌, ◌≤◌, ◌<◌}
use native.Mathlib.Nat.{le_trans, le_of_eq}
use native.Mathlib.Omega.{arith}
use borrow.Author.Tests.{eqb-false}
use lib.Dec.{ltb, eqb}
use lib.ListN.{length, get_or}
use lib.Seq.{get_or-take}
use lib.IntN.{pos}
use lib.Ieee.{Float, binary32, mul}
use lib.Ieee.Fits.{mul-fits, of_int-fits}
use Rattle.std.specs.Prelude.{Result, Ok}
use Rattle.refusals.specs.declared.Refusal.{Refusal}
use Rattle.refusals.specs.declared.Refusal.TheVariants.{NoChannel, BeyondLimits, ClockEnd, ShortList, Broken, BadRun, TooManyColumns, Recording, OtherChannels, BadWave, NoRoom}
use Rattle.refusals.specs.Refusals.{code_of, row}
use Rattle.binary32.specs.Leaves.{as_float}
use Rattle.walks.specs.Each.{Each}
use Rattle.common_types.specs.declared.InitParams.{InitParams}
use Rattle.common_types.specs.declared.Params.{Params}
use Rattle.common_types.specs.Settings.{speed_of, loop_length_of, beyond_limits, default_params}
use Rattle.common_types.proofs.LoopLengths.{loop_length_fits}
use Rattle.clip.specs.Positions.{index_at, next_at}
use Rattle.phrases.specs.Phrases.{is_over_by}
use Rattle.voice.specs.declared.Voice.{Voice}
use Rattle.clip.specs.Bounds.{Sound}
use Rattle.clip.proofs.Lengths.{float_length}
use Rattle.clip.proofs.Offsets.{clip_offset_inside}
use Rattle.clip.proofs.Kept.{with_speed_sound, with_length_sound, with_data_length_sound}
use Rattle.clip.proofs.Answers.{speed_found, mode_found, length_asked}
use Rattle.voice.specs.Voices.{clip_mode_of, span_of, tick_of, moved_of, blank_voice}
use Rattle.voice.specs.Soundness.{SoundParams, SoundVoice}
use Rattle.voice.proofs.Moves.{loop_length_good, moved_sound}
use Rattle.voice.proofs.Kept.{index_recorded, next_recorded, clip_sound}
use Rattle.channel.specs.Channels.{live, phrase_at, taken_of}
use Rattle.channel.specs.Soundness.{FittingChange, SoundChannel}
use Rattle.channel.proofs.Parts.{phrase_inside, phrase_within, voice_at}
use Rattle.channel.proofs.Samples.{taken_sound}
use Rattle.sampler.specs.declared.Sampler.{Sampler}
use Rattle.sampler.specs.Refusals.{channel_at, good_sampler, good_with, any_recording, against_any, no_channel, set_up_number, frame_judged, gather_judged, frames_left, run_judged, run_number}
use Rattle.sampler.specs.Soundness.{SoundSampler, Reached, Unbroken}
use Rattle.sampler.proofs.Entries.{part_length, sample_memory_length, frame_memory_length}
use Rattle.sampler.proofs.Gathered.{gather_memory_length}
use Rattle.sampler.proofs.Kept.{small, channel_sound}
use Rattle.sampler.proofs.Reach.{passes, another, none, reached_sound, reached_unbroken}
use Rattle.fates.specs.Engine.{moment_at, held_at}
use Rattle.fates.specs.Events.{length_at, tick_at}
use Rattle.questions.specs.Questions.{list_counted, get_voice_info_of, iter_active_notes_of, print_error_info_of, voice_infos_of}
use Rattle.questions.specs.Waveforms.{waveform_judged}
use Rattle.wave.specs.Reader.{file_judged}
use Rattle.wave.specs.Memory.{bytes_of}
use Rattle.recordings.specs.Waves.{lengths_differ, layout_in, write_judged, bad_file, held_in, read_judged}
use Rattle.recordings.proofs.Numbers.{read_sampler, read_memory_length}
use Rattle.channel.specs.declared.Change.TheVariants.{Head}
use Rattle.channel.specs.declared.HeadChange.TheVariants.{Load}
use Rattle.channel.specs.declared.Ask.TheVariants.{Samples}
use Rattle.promises.specs.Runs.{World, set_up, Question, get_frames_processed, get_data_len, is_recording, get_last_recorded_offset, print_error_info, iter_active_notes, get_voice_info, fill_voice_info, get_waveform_summary, write_wave, question_judged, Call, change, sample, frame, read_wave, gather, asks, call_judged, code, after, run, chan, FittingCall, judgement_of}
use Rattle.promises.specs.Demands.{lengthened, sped, told_length, Asked, AllPlaced, Plays, NoPanic, Whole}
use Rattle.walks.proofs.Lists.Looks.{look_below, look-value}
use Rattle.fates.proofs.Own.{held_length}
use Rattle.fates.proofs.Lives.{live_length}
use Rattle.promises.proofs.Calls.{Standing, standing_run, standing_new}
use Rattle.promises.proofs.Accepted.{Heard, heard, start_opens}
use Rattle.promises.proofs.Outcomes.{judgement_code}

-- ---- the records of a run are reached, and its memory keeps its length
reached_after : (size : ℕ) (w : World) (c : Call) → FittingCall c → Reached size w.sampler → Reached size (after w c).sampler
unfolding after FittingCall FittingChange
reached_after size w (change d) f r = Reached.changed w.sampler d r f
reached_after size w (sample j x p) f r = Reached.sampled w.sampler j x p w.memory r f
reached_after size w (frame xs p) f r = Reached.framed w.sampler xs p w.memory r f
reached_after size w (read_wave g) f r = read_sampler w.sampler g w.memory (Reached size) r (λ z. Reached.changed w.sampler (Head (Load (held_in (file_judged g)).samples)) r tt)
reached_after size w gather f r = Reached.gathered w.sampler w.memory r
reached_after size w (asks q) f r = r

pub memory_after : (w : World) (c : Call) → length (after w c).memory ≡ length w.memory
unfolding after
memory_after w (change d) = refl
memory_after w (sample j x p) = sample_memory_length w.sampler j _ p w.memory
memory_after w (frame xs p) = frame_memory_length w.sampler xs p w.memory
memory_after w (read_wave f) = read_memory_length w.sampler f w.memory
memory_after w gather = gather_memory_length w.sampler w.memory
memory_after w (asks q) = refl

reached_run : (size : ℕ) (w : World) (cs : List Call) → Each FittingCall cs → Reached size w.sampler → Reached size (run w cs).sampler
unfolding run Each
reached_run size w [] f r = r
reached_run size w (c ∷ cs) f r = reached_run size (after w c) cs f.1 (reached_after size w c f.0 r)

pub memory_run : (w : World) (cs : List Call) → length (run w cs).memory ≡ length w.memory
unfolding run
memory_run w [] = refl
memory_run w (c ∷ cs) = memory_run (after w c) cs ∙ memory_after w c

-- ---- row 9
not_nine : (b : Bool) (rest : Result (Unit {0}) Refusal) → code_of (row (not b) Broken rest) ≢ 9 → b ≡ true
not_nine true rest h = refl
not_nine false rest h = absurd (h refl)

good_with_lem : (s : Sampler) (size : ℕ) → Unbroken s size → good_with s size ≡ true
unfolding frame_judged
good_with_lem s size u = not_nine (good_with s size) _ (u.frame 0 default_params)

-- an answer's judgement has its number
answered_nine : {A : Type 0} (r : Result A Refusal) → code_of r ≢ 9 → code_of (judgement_of r) ≢ 9
answered_nine r h e = h (sym (judgement_code r) ∙ e)

listed_nine : (s : Sampler) (j : ℕ) (answer : List ℕ) (room : ℕ) → good_sampler s ≡ true → code_of (list_counted s j answer room) ≢ 9
unfolding list_counted
listed_nine s j answer room g = passes (good_sampler s) _ g (another (no_channel s j) NoChannel _ tt (another (ltb room (length answer)) ShortList (Ok (length answer)) tt none))

infos_nine : (s : Sampler) (j : ℕ) (p : Params) (room : ℕ) → good_sampler s ≡ true → code_of (get_voice_info_of s j p room) ≢ 9
unfolding get_voice_info_of
infos_nine s j p room g =
    passes (good_sampler s) _ g
    (another (no_channel s j) NoChannel _ tt (another (beyond_limits p) BeyondLimits _ tt (another (ltb room (channel_at s j).count) ShortList (Ok (voice_infos_of p (channel_at s 0) (channel_at s j))) tt none)))

asked_nine : (w : World) → Unbroken w.sampler (length w.memory) → good_sampler w.sampler ≡ true → good_with w.sampler (length w.memory) ≡ true → (q : Question) → code_of (question_judged w q) ≢ 9
unfolding question_judged waveform_judged write_judged
asked_nine w u g m (get_frames_processed j) = u.question j
asked_nine w u g m (get_data_len j) = u.question j
asked_nine w u g m (is_recording j) = u.question j
asked_nine w u g m (get_last_recorded_offset j) = u.question j
asked_nine w u g m (print_error_info j text) = answered_nine (print_error_info_of w.sampler j (length text)) (listed_nine w.sampler j _ (length text) g)
asked_nine w u g m (iter_active_notes j notes) = answered_nine (iter_active_notes_of w.sampler j (length notes)) (listed_nine w.sampler j _ (length notes) g)
asked_nine w u g m (get_voice_info j p room) = answered_nine (get_voice_info_of w.sampler j p room) (infos_nine w.sampler j p room g)
asked_nine w u g m (fill_voice_info j p list) = answered_nine (get_voice_info_of w.sampler j p (length list)) (infos_nine w.sampler j p (length list) g)
asked_nine w u g m (get_waveform_summary columns list) = passes (good_with w.sampler (length w.memory)) _ m (another (ltb 4096 columns) TooManyColumns _ tt (another (ltb (length list) columns) ShortList (Ok tt) tt none))
asked_nine w u g m (write_wave rate out) =
    passes (good_with w.sampler (length w.memory)) _ m
    (another (any_recording w.sampler) Recording _ tt (another (lengths_differ w.sampler) OtherChannels _ tt (another (ltb (length out) (bytes_of (layout_in w.sampler))) ShortList (Ok tt) tt none)))

no_nine : (w : World) → SoundSampler w.sampler → Unbroken w.sampler (length w.memory) → (c : Call) → code w c ≢ 9
unfolding call_judged read_judged gather_judged
no_nine w h u (change d) = u.change d
no_nine w h u (sample j x p) = u.sample j p
no_nine w h u (frame xs p) = u.frame (length xs) p
no_nine w h u (read_wave f) =
    let s = w.sampler in
    let held = held_in (file_judged f) in
    passes (good_with s (length w.memory)) _ (good_with_lem s (length w.memory) u)
    (another (against_any (Samples held.samples) s).blocked Recording _ tt (another (bad_file (file_judged f)) BadWave _ tt (another (not (eqb held.channels s.count)) OtherChannels _ tt (another (against_any (Samples held.samples) s).short NoRoom (Ok tt) tt none))))
no_nine w h u gather = u.gather
no_nine w h u (asks q) = asked_nine w u h.good (good_with_lem w.sampler (length w.memory) u) q

-- a run is tested for row 9 as a frame is
run_nine : (w : World) → Unbroken w.sampler (length w.memory) → (xs : List Float) (p : Params) → run_number w.sampler (length xs) p (length w.memory) ≢ 9
unfolding frame_judged run_judged
run_nine w u xs p =
    passes (good_with w.sampler (length w.memory)) _ (not_nine (good_with w.sampler (length w.memory)) _ (u.frame 0 p))
    (another (not (eqb (length xs % w.sampler.count) 0)) BadRun _ tt (another (beyond_limits p) BeyondLimits _ tt (another (ltb (frames_left w.sampler) (length xs / w.sampler.count)) ClockEnd (Ok tt) tt none)))

-- ---- what a voice sounds by
module _ (w : World) (st : Standing w) (h : SoundSampler w.sampler) (j n : ℕ) (v : Voice) (c : Call) (p : Params) (x : Float) (m : List ℕ) (y : Plays w j n v c p x m) where
  sounds_by : Heard w c j p x m
  sounds_by = heard w st j y.present p x m c y.sample

  sound_params : SoundParams p
  sound_params = record { within = sounds_by.within; fitting = sounds_by.floats y.floats }

  size : length m ≡ w.sampler.capacity
  size = ap length sounds_by.part ∙ part_length w.sampler j w.memory sounds_by.room

  taken : SoundChannel w.sampler.capacity (taken_of m (chan w j))
  taken = taken_sound w.sampler.capacity (chan w j) (channel_sound w.sampler h j y.present) (small w.sampler h) m size

  place : n < (chan w j).count
  place = omega (arith, look_below (live (chan w j)) n v y.stands, live_length (chan w j) (st.housing j y.present))

  itself : get_or (chan w j).voices n blank_voice ≡ v
  itself = sym (get_or-take (chan w j).count (chan w j).voices n blank_voice place) ∙ look-value (live (chan w j)) n v blank_voice y.stands

  some_data : 1 ≤ length_at m (chan w j) v
  some_data = go (length_at m (chan w j) v) (eqb-false (length_at m (chan w j) v) 0 y.finds)
    where
      go : (l : ℕ) → (l ≡ 0 → ⊥) → 1 ≤ l
      go l q = omega arith

  -- its phrase lies within the capacity
  ends : is_over_by w.sampler.capacity (phrase_at (taken_of m (chan w j)) v.phrase) ≡ true
  ends = phrase_inside w.sampler.capacity (taken_of m (chan w j)) taken v.phrase

  data_inside : length_at m (chan w j) v ≤ length (held_at x m (chan w j) v)
  data_inside = le_of_eq (sym (held_length x m (chan w j) v (subst (λ (k : ℕ). is_over_by k (phrase_at (taken_of m (chan w j)) v.phrase) ≡ true) (sym size) ends)))

  short : length_at m (chan w j) v ≤ 2 ^ 22
  unfolding moment_at
  short = le_trans (phrase_within w.sampler.capacity (taken_of m (chan w j)) taken v.phrase) (small w.sampler h)

  sound : SoundVoice (chan w j).head.now v
  unfolding taken_of
  sound = subst (SoundVoice (chan w j).head.now) itself (voice_at w.sampler.capacity (taken_of m (chan w j)) taken n blank_voice place)

  voice_sound : Sound v.clip2
  voice_sound = clip_sound (chan w j).head.now v sound

  index_inside : index_at (moved_of (tick_at p m (chan w j) v) v) (chan w j).head.now < length_at m (chan w j) v
  unfolding moment_at taken_of
  index_inside = index_recorded p (moment_at m (chan w j) v) sound_params some_data short v sound

  next_inside : next_at (moved_of (tick_at p m (chan w j) v) v) (chan w j).head.now < length_at m (chan w j) v
  unfolding moment_at taken_of
  next_inside = next_recorded p (moment_at m (chan w j) v) sound_params some_data short v sound

  lengthened_sound : Sound (lengthened (tick_at p m (chan w j) v) v)
  unfolding tick_of span_of moment_at taken_of
  lengthened_sound =
      let l = length_at m (chan w j) v in
      with_length_sound v.clip2 (chan w j).head.now (loop_length_of p l) (loop_length_fits p l sound_params.fitting) (loop_length_good p l sound_params short) voice_sound

  sped_sound : Sound (sped (tick_at p m (chan w j) v) v)
  unfolding tick_of span_of moment_at taken_of
  sped_sound =
      with_speed_sound (lengthened (tick_at p m (chan w j) v) v) (chan w j).head.now (mul binary32 v.speed (speed_of p)) (mul-fits binary32 v.speed (speed_of p)) lengthened_sound

  told_sound : Sound (told_length (tick_at p m (chan w j) v) v)
  unfolding tick_of span_of moment_at taken_of
  told_sound =
      let l = length_at m (chan w j) v in
      with_data_length_sound (sped (tick_at p m (chan w j) v) v) (chan w j).head.now (as_float l) (of_int-fits binary32 (pos l)) (float_length l some_data short) sped_sound

  all_placed : AllPlaced (tick_at p m (chan w j) v) v
  unfolding tick_of span_of moment_at taken_of
  all_placed =
      let t = tick_at p m (chan w j) v in
      let now = (chan w j).head.now in
      record {
        before_length = clip_offset_inside v.clip2 now voice_sound;
        before_speed = clip_offset_inside (lengthened t v) now lengthened_sound;
        before_data_length = clip_offset_inside (sped t v) now sped_sound;
        before_mode = clip_offset_inside (told_length t v) now told_sound;
        sounding = clip_offset_inside (moved_of t v) now (moved_sound p (moment_at m (chan w j) v) sound_params some_data short v voice_sound);
      }

  updates_asked : Asked (tick_at p m (chan w j) v) v
  unfolding tick_of span_of moment_at taken_of
  updates_asked =
      let now = (chan w j).head.now in
      let l = length_at m (chan w j) v in
      record {
        length = length_asked v.clip2 now voice_sound (loop_length_of p l) (loop_length_good p l sound_params short);
        speed = speed_found (lengthened (tick_at p m (chan w j) v) v) now lengthened_sound (mul binary32 v.speed (speed_of p));
        mode = mode_found (told_length (tick_at p m (chan w j) v) v) now told_sound (clip_mode_of p.loop_mode);
      }

pub no_panic : (count : ℕ) (q : InitParams) (m : List ℕ) → set_up_number count (length m) ≡ 0 → (cs : List Call) → Each FittingCall cs → NoPanic (run (set_up count q m) cs)
unfolding set_up
no_panic count q m z cs f =
    let w : World = run (set_up count q m) cs in
    let st = standing_run (set_up count q m) cs (standing_new count q m) in
    let h = reached_sound (length m) w.sampler (reached_run (length m) (set_up count q m) cs f (Reached.new count q z)) in
    record {
      good = h.good;
      asked = λ j n v c p x l y. updates_asked w st h j n v c p x l y;
      placed = λ j n v c p x l y. all_placed w st h j n v c p x l y;
      inside = λ j n v c p x l y. (index_inside w st h j n v c p x l y, next_inside w st h j n v c p x l y, data_inside w st h j n v c p x l y);
    }

pub whole : (count : ℕ) (q : InitParams) (m : List ℕ) → set_up_number count (length m) ≡ 0 → (cs : List Call) → Each FittingCall cs → Whole (run (set_up count q m) cs)
unfolding set_up
whole count q m z cs f =
    let w : World = run (set_up count q m) cs in
    let st = standing_run (set_up count q m) cs (standing_new count q m) in
    let r = reached_run (length m) (set_up count q m) cs f (Reached.new count q z) in
    let h = reached_sound (length m) w.sampler r in
    let u = reached_unbroken (length m) w.sampler r (length w.memory) (le_of_eq (sym (memory_run (set_up count q m) cs))) in
    record {
      unbroken = no_nine w h u;
      unbroken_run = λ xs p. run_nine w u xs p;
      fitting = h.fitting;
      opens = λ position note velocity p a b d u. start_opens w st position note velocity p h.good a b d u;
    }
