-- The demands hold. Assumes nothing.
use mathlib.Core.Path.{◌≡◌, refl, sym, ap, ◌∙◌}
use mathlib.Core.Bool.{Bool, not, cond, true, false}
use mathlib.Core.Logic.{◌⊎◌, inl, inr, ◌≢◌}
use mathlib.Core.List.{List, [], ◌++◌}
use Prim.Native.Nat.{ℕ, ◌%◌, ◌/◌}
use lib.Dec.{eqb, ltb}
use Rattle.std.specs.Prelude.{Result, Ok, Err, is_ok}
use lib.ListN.{length, take, drop}
use lib.Ieee.{Float, nan, inf, fin, is_nan, lt, binary32, units, odd, round, div, of_int}
use Rattle.refusals.specs.declared.Refusal.{Refusal}
use Rattle.refusals.specs.declared.Refusal.TheVariants.{NoChannel, BadNote, BadPosition, BeyondLimits, Full, ClockEnd, ShortList, Broken, BadRun, TooManyColumns}
use Rattle.refusals.specs.Refusals.{code_of}
use Rattle.refusals.proofs.Codes.{refused_at, passed}
use Rattle.refusals.proofs.Numbers.{code_row}
use Rattle.binary32.specs.Leaves.{as_float, min_of, max_of, root_of}
use Rattle.binary32.proofs.Halves.{of_int_whole}
use Rattle.binary32.proofs.Casts.{narrow}
use Rattle.binary32.proofs.Floors.{floor_exact, floor_cast}
use Rattle.binary32.proofs.Patterns.{value_back, pattern_back}
use Rattle.binary32.proofs.Roots.{nearest}
use Rattle.std.specs.List.{list_any}
use Rattle.common_types.proofs.Packing.{unpack_pack, pack_unpack}
use Rattle.common_types.specs.declared.InitParams.{InitParams}
use Rattle.common_types.specs.declared.Params.{Params}
use Rattle.common_types.specs.declared.time_value.TimeValue.TheVariants.{Bars}
use Rattle.common_types.specs.declared.time_value.TimeOrRatio.{TimeOrRatio}
use Rattle.common_types.specs.declared.time_value.TimeOrRatio.TheVariants.{WholeBars}
use Rattle.common_types.specs.Times.{as_samples_of}
use Rattle.common_types.specs.Settings.{length_of, loop_length_of, beyond_limits}
use Rattle.clip.proofs.AtOnce.{at_once, skips_length, skips_speed, skips_data_length, skips_mode}
use Rattle.clip.proofs.Indices.{adds_up}
use Rattle.voice.proofs.Values.{value_off, value_whole}
use Rattle.clip.proofs.Offsets.{clip_offset_inside, offset_within}
use Rattle.channel.specs.declared.Change.{Change}
use Rattle.channel.specs.Tables.{asks_of}
use Rattle.channel.specs.Channels.{recording_of}
use Rattle.sampler.specs.declared.Sampler.{Sampler}
use Rattle.sampler.specs.declared.Answer.{Answer}
use Rattle.sampler.specs.declared.Ran.{Ran}
use Rattle.sampler.specs.Refusals.{channel_at, good_sizes, good_sampler, capacity_of, good_with, no_channel, set_up_judged, set_up_number, start_rows, stop_rows, speed_rows, sample_judged, sample_number, frame_judged, run_judged, run_number, gather_judged, channel_judged, bad_note, bad_position, any_full, at_end, frames_left}
use Rattle.sampler.specs.Samplers.{sampler_of, set_up_of, each_of, answer_of, process_sample_of, sample_memory, channel_stepped_of, memory_at, Framed, framed, entries_of, framed_of, run_answer}
use Rattle.sampler.proofs.Against.{against_voice}
use Rattle.sampler.proofs.Gathered.{gather_refused, gather_leaves}
use Rattle.questions.specs.Questions.{in_front, list_counted, list_after, get_voice_info_of, iter_active_notes_of, print_error_info_of}
use Rattle.questions.specs.declared.VoiceInfo.{VoiceInfo}
use Rattle.questions.specs.declared.VoiceInfos.{VoiceInfos}
use Rattle.questions.specs.Waveforms.{column_of, columns_from, smallest_of, largest_of, summary_with, waveform_judged, waveform_number, waveform_of, get_waveform_summary_of, waveform_after}
use Rattle.questions.proofs.Cuts.{cut_first, cut_inside, cuts_rise}
use Rattle.questions.proofs.Summaries.{columns_count, smallest_zero}
use Rattle.questions.specs.Lists.{listed_of}
use Rattle.channel.specs.declared.Change.TheVariants.{Start, Stop, Speed, Head, Reset}
use Rattle.channel.specs.declared.HeadChange.TheVariants.{Load}
use Rattle.wave.specs.Reader.{file_judged}
use Rattle.wave.specs.Memory.{loaded_of}
use Rattle.recordings.specs.Waves.{beginnings_in, write_judged, wave_after, held_in, read_judged, read_wave_of, read_memory}
use Rattle.promises.specs.Runs.{
  World,
  set_up,
  Question,
  get_frames_processed,
  get_data_len,
  is_recording,
  get_last_recorded_offset,
  print_error_info,
  iter_active_notes,
  get_voice_info,
  fill_voice_info,
  get_waveform_summary,
  write_wave,
  question_judged,
  Call,
  change,
  speed,
  start_recording,
  stop_recording,
  reset,
  sample,
  frame,
  read_wave,
  gather,
  asks,
  judgement_of,
  call_judged,
  row,
  code,
  after,
  chan,
  own_part,
}
use Rattle.promises.specs.Outcomes.{on, Outcome, Allows, Untouched}
use Rattle.promises.specs.Demands.{waveform, Demand1, Demand2, Demands}
use Rattle.promises.proofs.Memory.{part_unwritten, part_written, parts_unwritten}
use Rattle.promises.proofs.Outcomes.{settled, one_outcome, judgement_code, judged_code, left_after, left_along, output_answered, chain_makes, makes_chain}
use Rattle.promises.proofs.Infos.{infos_given, infos_counted_lem, infos_listed}
use Rattle.promises.proofs.Extremes.{smaller_of_both, larger_of_both}
use Rattle.promises.proofs.Table.{table_holds}
use Rattle.promises.proofs.Broken.{row_nine}
use Rattle.promises.proofs.Rows.{row_tests}
use Rattle.promises.proofs.SmallParts.{row_seven}
use Rattle.promises.proofs.Recordings.{recordings}
use Rattle.promises.proofs.Phrases.{phrases}
use Rattle.promises.proofs.Phrases.Number.{eight}
use Rattle.promises.proofs.Phrases.One.{one_phrase}
use Rattle.promises.proofs.Whole.{memory_after, memory_run}
use Rattle.promises.proofs.Turns.{in_turn}
use Rattle.promises.proofs.Makes.{no_panic, third, old_removal, true_positions, spreads, count_makes, capacity_makes, whole}
use Rattle.promises.proofs.RunEnds.{run_held, run_done, run_ends}
use Rattle.promises.proofs.Settings.{one_setting}
use Rattle.promises.proofs.Tidying.{tidying}

-- ---- a refusal

-- the branch that a refused call takes
other : {A B : Type 0} (r : Result B Refusal) (x y : A) → code_of r ≢ 0 → cond (is_ok r) x y ≡ y
other r x y h = rw (refused_at r h)

answer_held : (w : World) (r : Result (Unit {0}) Refusal) (d : Change) → code_of r ≢ 0 → record { sampler = (answer_of r d w.sampler).sampler; memory = w.memory } ≡ w
unfolding answer_of
answer_held w r d h = λ t. record { sampler = other r (each_of d w.sampler) w.sampler h t; memory = w.memory }

sample_held : (w : World) (j : ℕ) (x y : Float) (p : Params) → sample_number w.sampler j p (length w.memory) ≢ 0
    → record { sampler = (process_sample_of w.sampler j x p w.memory).sampler; memory = sample_memory w.sampler j y p w.memory } ≡ w
unfolding process_sample_of sample_memory
sample_held w j x y p h =
    let r = sample_judged w.sampler j p (length w.memory) in
    λ t. record { sampler = other r (channel_stepped_of w.sampler j p x w.memory) w.sampler h t; memory = other r (memory_at w.sampler j y w.memory) w.memory h t }

after_held : (w : World) (c : Call) → code w c ≢ 0 → after w c ≡ w
unfolding after call_judged framed_of read_wave_of read_memory answer_of
after_held w (change d) h = answer_held w _ _ h
after_held w (sample j x p) h = sample_held w j x _ p h
after_held w (frame xs p) h =
    let f = framed w.sampler xs w.memory in
    let e = other (frame_judged w.sampler (length xs) p (length w.memory)) (entries_of p (length xs) 0 f) f h in
    λ t. record { sampler = (e t).sampler; memory = (e t).memory }
after_held w (read_wave f) h =
    let r = read_judged w.sampler (file_judged f) (length w.memory) in
    λ t. record { sampler = other r (each_of (Head (Load (held_in (file_judged f)).samples)) w.sampler) w.sampler h t; memory = other r (loaded_of f (beginnings_in w.sampler) w.memory) w.memory h t }
after_held w gather h = λ t. record { sampler = gather_refused w.sampler w.memory h t; memory = gather_leaves w.sampler w.memory h t }
after_held w (asks q) h = refl

-- a list that a refused question leaves
list_held : (s : Sampler) (j : ℕ) (answer lent : List ℕ) → code_of (judgement_of (list_counted s j answer (length lent))) ≢ 0 → list_after s j answer lent ≡ lent
unfolding list_after
list_held s j answer lent h = other (list_counted s j answer (length lent)) (in_front answer lent) lent (λ z. h (judgement_code _ ∙ z))

infos_held : (r : Result VoiceInfos Refusal) (list : List VoiceInfo) → code_of (judgement_of r) ≢ 0 → listed_of r list ≡ list
unfolding listed_of
infos_held (Ok v) list h = absurd (h refl)
infos_held (Err e) list h = refl

untouched : (w : World) (c : Call) (r : Outcome (on w c)) → Allows (on w c) r → code w c ≢ 0 → Untouched w c r
unfolding Untouched call_judged question_judged framed_of waveform_after wave_after
untouched w (change d) r h n = tt
untouched w (sample j x p) r h n = tt
untouched w (frame xs p) r h n =
    let f = framed w.sampler xs w.memory in
    h.1.frame ∙ ap (λ (g : Framed). g.frame) (other (frame_judged w.sampler (length xs) p (length w.memory)) (entries_of p (length xs) 0 f) f n)
untouched w (read_wave f) r h n = tt
untouched w gather r h n = tt
untouched w (asks (get_frames_processed j)) r h n = tt
untouched w (asks (get_data_len j)) r h n = tt
untouched w (asks (is_recording j)) r h n = tt
untouched w (asks (get_last_recorded_offset j)) r h n = tt
untouched w (asks (print_error_info j text)) r h n = h.1 ∙ list_held w.sampler j _ text n
untouched w (asks (iter_active_notes j notes)) r h n = h.1 ∙ list_held w.sampler j _ notes n
untouched w (asks (get_voice_info j p room)) r h n = tt
untouched w (asks (fill_voice_info j p list)) r h n = h.1 ∙ infos_held (get_voice_info_of w.sampler j p (length list)) list n
untouched w (asks (get_waveform_summary columns list)) r h n =
    h.1 ∙ other (waveform_judged w.sampler columns (length list) (length w.memory)) (in_front (waveform_of w.sampler columns w.memory) list) list n
untouched w (asks (write_wave rate out)) r h n = h.1 ∙ other (write_judged w.sampler (length out) (length w.memory)) _ out n

-- ---- a refused set-up
empty_record : (p : InitParams) (m : List ℕ) (c : Call) → code (record { sampler = sampler_of 0 p 0; memory = m }) c ≡ 9
unfolding call_judged question_judged start_rows stop_rows speed_rows sample_judged frame_judged channel_judged list_counted get_voice_info_of waveform_judged write_judged read_judged gather_judged good_with good_sampler good_sizes
empty_record p m (change (Start q position note velocity)) = refl
empty_record p m (change (Stop q note)) = refl
empty_record p m (change (Speed note s)) = refl
empty_record p m (change (Head d)) = refl
empty_record p m (change Reset) = refl
empty_record p m (sample j x q) = refl
empty_record p m (frame xs q) = refl
empty_record p m (read_wave f) = refl
empty_record p m gather = refl
empty_record p m (asks (get_frames_processed j)) = refl
empty_record p m (asks (get_data_len j)) = refl
empty_record p m (asks (is_recording j)) = refl
empty_record p m (asks (get_last_recorded_offset j)) = refl
empty_record p m (asks (print_error_info j text)) = refl
empty_record p m (asks (iter_active_notes j notes)) = refl
empty_record p m (asks (get_voice_info j q room)) = refl
empty_record p m (asks (fill_voice_info j q list)) = refl
empty_record p m (asks (get_waveform_summary columns list)) = refl
empty_record p m (asks (write_wave rate out)) = refl

unmade : (count : ℕ) (p : InitParams) (m : List ℕ) → set_up_number count (length m) ≢ 0 → (c : Call) → code (set_up count p m) c ≡ 9
unfolding set_up set_up_of
unmade count p m h c =
    ap (λ (s : Sampler). code (record { sampler = s; memory = m }) c) (other (set_up_judged count (length m)) (sampler_of count p (capacity_of count (length m))) (sampler_of 0 p 0) h)
    ∙ empty_record p m c

unmade_run : (count : ℕ) (p : InitParams) (m : List ℕ) → set_up_number count (length m) ≢ 0 → (xs : List Float) (q : Params) → run_number (set_up count p m).sampler (length xs) q (length m) ≡ 9
unfolding set_up set_up_of run_judged good_with good_sampler good_sizes
unmade_run count p m h xs q =
    ap (λ (s : Sampler). run_number s (length xs) q (length m)) (other (set_up_judged count (length m)) (sampler_of count p (capacity_of count (length m))) (sampler_of 0 p 0) h)

-- ---- rows
channel_rows : (s : Sampler) (j : ℕ) → code_of (channel_judged s j) ≡ row (not (good_sampler s)) 9 (row (no_channel s j) 1 0)
unfolding channel_judged
channel_rows s j = code_row (not (good_sampler s)) Broken _ _ (code_row (no_channel s j) NoChannel _ _ refl)

list_rows : (s : Sampler) (j : ℕ) (answer : List ℕ) (room : ℕ) → code_of (list_counted s j answer room) ≡ row (not (good_sampler s)) 9 (row (no_channel s j) 1 (row (ltb room (length answer)) 8 0))
unfolding list_counted
list_rows s j answer room = code_row (not (good_sampler s)) Broken _ _ (code_row (no_channel s j) NoChannel _ _ (code_row (ltb room (length answer)) ShortList _ _ refl))

query_rows : (w : World) (j : ℕ) (q : Question) → (q ≡ get_frames_processed j) ⊎ ((q ≡ get_data_len j) ⊎ ((q ≡ is_recording j) ⊎ (q ≡ get_last_recorded_offset j)))
    → code w (asks q) ≡ row (not (good_sampler w.sampler)) 9 (row (no_channel w.sampler j) 1 0)
unfolding call_judged question_judged
query_rows w j q (inl e) = ap (λ (q : Question). code w (asks q)) e ∙ channel_rows w.sampler j
query_rows w j q (inr (inl e)) = ap (λ (q : Question). code w (asks q)) e ∙ channel_rows w.sampler j
query_rows w j q (inr (inr (inl e))) = ap (λ (q : Question). code w (asks q)) e ∙ channel_rows w.sampler j
query_rows w j q (inr (inr (inr e))) = ap (λ (q : Question). code w (asks q)) e ∙ channel_rows w.sampler j

plain_rows : (w : World) (c : Call) → (c ≡ start_recording) ⊎ ((c ≡ stop_recording) ⊎ (c ≡ reset)) → code w c ≡ row (not (good_sampler w.sampler)) 9 0
unfolding call_judged
plain_rows w c (inl e) = ap (code w) e ∙ code_row (not (good_sampler w.sampler)) Broken _ _ refl
plain_rows w c (inr (inl e)) = ap (code w) e ∙ code_row (not (good_sampler w.sampler)) Broken _ _ refl
plain_rows w c (inr (inr e)) = ap (code w) e ∙ code_row (not (good_sampler w.sampler)) Broken _ _ refl

-- what an accepted summary answers
summary_given : (w : World) (columns : ℕ) (list : List Float) → waveform_number w.sampler columns (length list) (length w.memory) ≡ 0
    → (get_waveform_summary_of w.sampler columns (length list) w.memory ≡ Ok (summary_with (smallest_of (waveform w columns)) (largest_of (waveform w columns))))
    × (waveform_after w.sampler columns list w.memory ≡ waveform w columns ++ drop columns list)
unfolding waveform_judged get_waveform_summary_of waveform_after
summary_given w columns list n =
    let a = passed (not (good_with w.sampler (length w.memory))) Broken _ n in
    let b = passed (ltb 4096 columns) TooManyColumns _ a.1 in
    let c = passed (ltb (length list) columns) ShortList (Ok tt) b.1 in
    let count = columns_count columns (recording_of (chan w 0) (own_part w 0)) columns 0 in
    (rw (a.0, b.0, c.0) refl, rw (a.0, b.0, c.0) (ap (λ (k : ℕ). waveform w columns ++ drop k list) count))

demand1 : Demand1
unfolding set_up_of set_up_judged call_judged question_judged start_rows stop_rows speed_rows sample_judged frame_judged get_voice_info_of list_counted waveform_judged run_judged run_answer asks_of
demand1 = record {
  takes = settled;
  one = one_outcome;
  unwritten = λ w c r h j n e. ap (λ (v : World). own_part v j) (left_after w c r h) ∙ part_unwritten w j c n e;
  written = λ w c r h j p x m e. ap (λ (v : World). own_part v j) (left_after w c r h) ∙ part_written w j c p x m e;
  unwritten_run = parts_unwritten;
  run_sized = λ w f xs p g r h. ap (λ (v : World). length v.memory) (left_along w xs p r h ∙ (in_turn w f xs p g).leaves) ∙ memory_run w _;
  filled = λ w j p list r h n q.
      let z = sym (judgement_code (get_voice_info_of w.sampler j p (length list))) ∙ n in
      (h.0 ∙ infos_counted_lem w j p (length list) z q, h.1 ∙ infos_listed w j p (length list) z q list);
  informed = λ w j p room r h n q. infos_given w j p room (sym (judgement_code (get_voice_info_of w.sampler j p room)) ∙ n) q r h;
  summarized = λ w columns list r h n. (h.0 ∙ (summary_given w columns list n).0, h.1 ∙ (summary_given w columns list n).1);
  unmade = unmade;
  unmade_run = unmade_run;
  sized = λ w c r h. ap (λ (v : World). length v.memory) (left_after w c r h) ∙ memory_after w c;
  named = judged_code;
  numbered = λ w c r h. ap code_of (judged_code w c r h);
  start_rows_lem = λ w position note velocity p.
      rw (against_voice w.sampler)
      (code_row (not (good_sampler w.sampler)) Broken _ _ (code_row (bad_note note) BadNote _ _ (code_row (bad_position position) BadPosition _ _ (code_row (beyond_limits p) BeyondLimits _ _ (code_row (any_full w.sampler) Full _ _ refl)))));
  stop_rows_lem = λ w note p. code_row (not (good_sampler w.sampler)) Broken _ _ (code_row (bad_note note) BadNote _ _ (code_row (beyond_limits p) BeyondLimits _ _ refl));
  speed_rows_lem = λ w note s. code_row (not (good_sampler w.sampler)) Broken _ _ (code_row (bad_note note) BadNote _ _ refl);
  sample_rows = λ w j x p. code_row (not (good_with w.sampler (length w.memory))) Broken _ _ (code_row (no_channel w.sampler j) NoChannel _ _ (code_row (beyond_limits p) BeyondLimits _ _ (code_row (at_end (channel_at w.sampler j)) ClockEnd _ _ refl)));
  frame_rows = λ w xs p.
      code_row (not (good_with w.sampler (length w.memory))) Broken _ _ (code_row (ltb w.sampler.count (length xs)) NoChannel _ _ (code_row (beyond_limits p) BeyondLimits _ _ (code_row (list_any at_end (take (length xs) w.sampler.channels)) ClockEnd _ _ refl)));
  run_rows = λ w xs p r h. ap (λ (a : Ran). code_of a.done) h.0
      ∙ code_row (not (good_with w.sampler (length w.memory))) Broken _ _ (code_row (not (eqb (length xs % w.sampler.count) 0)) BadRun _ _ (code_row (beyond_limits p) BeyondLimits _ _ (code_row (ltb (frames_left w.sampler) (length xs / w.sampler.count)) ClockEnd _ _ refl)));
  info_rows = λ w j p room. judgement_code (get_voice_info_of w.sampler j p room)
      ∙ code_row (not (good_sampler w.sampler)) Broken _ _ (code_row (no_channel w.sampler j) NoChannel _ _ (code_row (beyond_limits p) BeyondLimits _ _ (code_row (ltb room (channel_at w.sampler j).count) ShortList _ _ refl)));
  fill_rows = λ w j p list. refl;
  notes_rows = λ w j notes. judgement_code (iter_active_notes_of w.sampler j (length notes)) ∙ list_rows w.sampler j _ (length notes);
  text_rows = λ w j text. judgement_code (print_error_info_of w.sampler j (length text)) ∙ list_rows w.sampler j _ (length text);
  summary_rows = λ w columns list. code_row (not (good_with w.sampler (length w.memory))) Broken _ _ (code_row (ltb 4096 columns) TooManyColumns _ _ (code_row (ltb (length list) columns) ShortList _ _ refl));
  query_rows = query_rows;
  plain_rows = plain_rows;
  interpolation_rows = λ w on. code_row (not (good_sampler w.sampler)) Broken _ _ refl;
  set_up_rows = λ count p m r h. ap (λ (a : Answer). code_of a.done) h ∙ code_row (not (good_sizes count (capacity_of count (length m)))) Broken _ _ refl;
  held = λ w c r h n. (left_after w c r h ∙ after_held w c n, untouched w c r h n);
  run_held = run_held;
  run_done = run_done;
  run_ends = run_ends;
  tests = row_tests;
  small_parts = row_seven;
  broken = row_nine;
}

-- ---- demand 2
nan_first : (x : Float) → (min_of nan x ≡ x) × (max_of nan x ≡ x)
unfolding min_of max_of is_nan
nan_first x = (refl, refl)

nan_second : (x : Float) → (min_of x nan ≡ x) × (max_of x nan ≡ x)
unfolding min_of max_of is_nan lt
nan_second nan = (refl, refl)
nan_second (inf s) = (refl, refl)
nan_second (fin s m e) = (refl, refl)

whole_bars : (p : Params) (n : ℕ) (x : Float) → p.loop_length ≡ WholeBars x → loop_length_of p n ≡ max_of (as_samples_of (Bars x) p.transport) (as_float 1)
unfolding loop_length_of length_of of_int
whole_bars p n x e = ap (λ (l : TimeOrRatio). max_of (length_of l p.transport n) (as_float 1)) e

column_of_none : column_of [] ≡ nan
unfolding column_of of_int round units odd div root_of
column_of_none = refl

demand2 : Demand2
unfolding columns_from
demand2 = record {
  exact = of_int_whole binary32;
  narrow = narrow;
  whole_part = floor_cast;
  floors_down = floor_exact false;
  floors_up = floor_exact true;
  smaller = λ x. ((nan_first x).0, (nan_second x).0);
  larger = λ x. ((nan_first x).1, (nan_second x).1);
  smaller_of_both = smaller_of_both;
  larger_of_both = larger_of_both;
  patterns = value_back;
  values = λ b h n. pattern_back b h ∙ ap (λ (t : Bool). cond t 0x7fc0_0000 b) n;
  positions = λ c now h. (clip_offset_inside c now h, offset_within c now h);
  adds_up = adds_up;
  off = value_off;
  whole_alike = λ t m c z tame. value_whole t m c z tame.here tame.next tame.between;
  roots = nearest;
  cuts_inside = λ n columns N K M i I. cut_inside n columns N K M i I;
  cuts_in_order = λ n columns N K M i j h J. cuts_rise n columns N K M i j h J;
  cuts_begin = λ n columns N K M. cut_first n columns N K M;
  empty_column = column_of_none;
  smallest_is_zero = λ columns recording. smallest_zero columns recording columns 0;
  columns_count = λ columns recording. columns_count columns recording columns 0;
  no_columns = λ recording. (refl, refl, refl);
  at_once = at_once;
  skips_alone = λ c now l s d m. record {
    length = skips_length c now l s d m;
    speed = skips_speed c now l s d m;
    data_length = skips_data_length c now l s d m;
    mode = skips_mode c now l s d m;
  };
  packed = unpack_pack;
  unpacked = pack_unpack;
  table = table_holds;
  bar = whole_bars;
}

pub demands : Demands
unfolding capacity_of
demands = record {
  first = demand1;
  no_panic = no_panic;
  second = demand2;
  third = third;
  true_positions = true_positions;
  one_setting = one_setting;
  tidying = tidying;
  old_removal = old_removal;
  recordings = recordings;
  phrases = phrases;
  one_phrase = one_phrase;
  eight = eight;
  in_turn = in_turn;
  spreads = spreads;
  count_stays = count_makes;
  capacity_stays = capacity_makes;
  whole = whole;
  answers = output_answered;
  runs = makes_chain;
  no_other = λ w u hs h. chain_makes h;
}
