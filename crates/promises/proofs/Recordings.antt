-- Recordings out and in as WAVE files are what request 10/12 says: `specs/Recordings.antt`. Assumes nothing.
use mathlib.Core.Path.{◌≡◌, refl, sym, ap, ◌∙◌, subst}
use mathlib.Core.Bool.{Bool, true, false, not, ◌&&◌, cond}
use mathlib.Core.List.{List, ◌++◌}
use mathlib.Core.Logic.{◌⊎◌, inl, inr}
use Prim.Native.Nat.{ℕ, ◌+◌, ◌-◌, ◌*◌, ◌^◌, ◌≤◌, ◌<◌}
use native.Mathlib.Nat.{le_refl}
use native.Mathlib.Omega.{arith}
use borrow.Author.Tests.{ltb-true, ltb-false}
use lib.Dec.{eqb, ltb}
use lib.ListN.{length, take, drop, get_or, length-take, length-drop}
use lib.Seq.{take_at, drop_at, ext_get_or}
use Rattle.std.specs.Prelude.{Ok}
use Rattle.refusals.specs.declared.Refusal.TheVariants.{ShortList, Broken, Recording, OtherChannels, BadWave, NoRoom}
use Rattle.refusals.proofs.Codes.{done_at}
use Rattle.refusals.proofs.Numbers.{code_row, zero_unit}
use Rattle.octets.specs.Octets.{Bytes}
use Rattle.wave.specs.declared.Starts.{Starts}
use Rattle.wave.specs.declared.Wave.{Wave}
use Rattle.wave.specs.declared.Judged.{Judged}
use Rattle.wave.specs.declared.Judged.TheVariants.{Is, Refused}
use Rattle.wave.specs.Fields.{listed}
use Rattle.wave.specs.Files.{file_of}
use Rattle.wave.specs.Reader.{words_in, file_judged}
use Rattle.wave.specs.Grammar.{IsWave}
use Rattle.wave.specs.Memory.{start_at, fits_memory, frame_words, channel_words, bytes_of, layout_of, loaded_of}
use Rattle.wave.specs.Promised.{Sized, recording_at}
use Rattle.wave.proofs.Answers.{Known, good_known, answer_good}
use Rattle.wave.proofs.Layouts.{fits_true}
use Rattle.wave.proofs.Promised.{promised, file_good, file_samples, frames_recording, sized}
use Rattle.wave.proofs.Calls.{length_frames, length_file, length_loaded}
use Rattle.phrases.specs.Phrases.{stored_in}
use Rattle.phrases.proofs.Reaches.{behind_same, next_within}
use Rattle.recorder.specs.declared.State.{State}
use Rattle.recorder.specs.declared.State.TheVariants.{Triggered, Idle}
use Rattle.recorder.proofs.Cases.{not_recording}
use Rattle.channel.specs.declared.Head.{Head}
use Rattle.channel.specs.declared.Channel.{Channel}
use Rattle.channel.specs.Heads.{begins_at, holds_of, phrase_after, recorder_after, interpolates_after, chosen_after, head_changed_of}
use Rattle.channel.specs.Tables.{table_after, several_after, found_by, blocked_by, short_by}
use Rattle.channel.specs.Channels.{with_head, others_in, beside_in, behind_in, begins_in, head_changed_in}
use Rattle.sampler.specs.declared.Sampler.{Sampler}
use Rattle.sampler.specs.Refusals.{good_with, records, any_recording, against_any}
use Rattle.sampler.specs.Samplers.{part_of}
use Rattle.sampler.proofs.Rows.{Fitting, fitting}
use Rattle.sampler.proofs.Against.{none_at}
use Rattle.recordings.specs.Waves.{samples_of, starts_in, beginnings_in, layout_in, write_judged, write_wave_of, wave_after, bad_file, held_in, read_judged, read_wave_of, read_memory, lengths_differ}
use Rattle.recordings.specs.declared.ReadAnswer.{ReadAnswer}
use Rattle.recordings.proofs.Parts.{Roomy, beginnings_fit, part_read, part_before, part-rest, parts_rest, recording_there, alike_at}
use Rattle.recordings.proofs.Numbers.{layout_fits, file_fits, Writes, write_says, Loads, read_says, loads_few}
use Rattle.fates.specs.Events.{act}
use Rattle.promises.specs.Runs.{World, read_wave, asks, write_wave, question_judged, call_judged, code, after, chan, own_part, done_to, event, row}
use Rattle.promises.specs.Outcomes.{on, ListOutcome, ReadOutcome, Allows, left_by}
use Rattle.promises.proofs.Calls.{chan_after, kept}
use Rattle.promises.proofs.Outcomes.{left_after}
use Rattle.promises.specs.Recordings.{recording, Words, bytes_in, no_room, Written, beginning, Read, Recordings, write_place_of}

-- ---- rows
module _ (w : World) where
  abbrev s : Sampler
  s = w.sampler

  abbrev size : ℕ
  size = length w.memory

  abbrev rows_of : Judged → ℕ
  rows_of j = row (not (good_with s size)) 9 (row (any_recording s) 15 (row (bad_file j) 17 (row (not (eqb (held_in j).channels s.count)) 16 (row (no_room s (held_in j).samples) 18 0))))

  read_code : (f : List ℕ) (j : Judged) → file_judged f ≡ j → code w (read_wave f) ≡ rows_of j
  unfolding call_judged read_judged against_any blocked_by short_by
  read_code f j e =
      rw e
      (code_row (not (good_with s size)) Broken _ _ (code_row (any_recording s) Recording _ _ (code_row (bad_file j) BadWave _ _ (code_row (not (eqb (held_in j).channels s.count)) OtherChannels _ _ (code_row (no_room s (held_in j).samples) NoRoom _ _ refl)))))

  read_rows : (f : List ℕ) (rate channels : ℕ) (words : List ℕ) (g : IsWave f rate channels words)
      → code w (read_wave f) ≡ row (not (good_with s size)) 9 (row (any_recording s) 15 (row (not (eqb channels s.count)) 16 (row (no_room s g.samples) 18 0)))
  read_rows f rate channels words g =
      let k = good_known f rate channels words g in
      read_code f (Is k.wave) k.judged
      ∙ rw (k.same_channels, k.same_samples) refl

  bad_rows : (f : List ℕ) → Bytes f → ((rate channels : ℕ) (words : List ℕ) → IsWave f rate channels words → ⊥)
      → code w (read_wave f) ≡ row (not (good_with s size)) 9 (row (any_recording s) 15 17)
  bad_rows f bytes bad = go (file_judged f) refl
    where
      go : (j : Judged) → file_judged f ≡ j → code w (read_wave f) ≡ row (not (good_with s size)) 9 (row (any_recording s) 15 17)
      go (Is v) e = absurd (bad _ _ _ (answer_good f bytes v e))
      go Refused e = read_code f Refused e

  -- ---- writing
  module _ (rate : ℕ) (out : List ℕ) (r : ListOutcome) (a : Allows (on w (asks (write_wave rate out))) r) (z : code w (asks (write_wave rate out)) ≡ 0)
      (small : rate < 2 ^ 32) (words : Words w.memory) (two : length w.sampler.channels ≡ 2) where
    abbrev n : ℕ
    n = samples_of s

    abbrev frames : List ℕ
    frames = frame_words (layout_in s) w.memory

    abbrev file : List ℕ
    file = file_of rate s.count n frames

    lets : Writes s (length out) size
    unfolding call_judged question_judged
    lets = write_says s (length out) size z

    long : length file ≡ bytes_in w
    long = length_file rate s.count n frames ∙ ap (λ (k : ℕ). 58 + 4 * k) (length_frames (layout_in s) w.memory)

    lent : r.lent ≡ file ++ drop (bytes_in w) out
    unfolding call_judged question_judged wave_after
    lent = a.1 ∙ rw (zero_unit (write_judged s (length out) size) z) refl

    in_front_lem : take (bytes_in w) r.lent ≡ file
    in_front_lem = ap (take (bytes_in w)) lent ∙ take_at file _ (bytes_in w) long

    whole : Fitting s size
    whole = fitting s size lets.good

    at_most : s.count ≤ 2
    at_most = whole.few

    fits_file : Sized rate s.count n frames
    fits_file = sized rate (layout_in s) w.memory small words (layout_fits s size lets.good two lets.alike) (file_fits s size lets.good (bytes_of (layout_in s)) (le_refl _))

    -- a good file with so many samples a channel
    record Good (f : List ℕ) : Type 0 where
      is : IsWave f rate s.count frames
      samples : is.samples ≡ n

    good : Good (take (bytes_in w) r.lent)
    good = subst Good (sym in_front_lem) (record { is = file_good rate s.count n frames fits_file; samples = file_samples rate s.count n frames fits_file })

    pub written : Written w rate out r
    unfolding call_judged question_judged write_wave_of
    written = record {
      words = frames;
      file = in_front_lem;
      good = good.is;
      samples = good.samples;
      recordings = λ j k. recording_there s whole.good at_most j k w.memory
          ∙ ap (λ (x : ℕ). recording_at (starts_in s) x j w.memory) (alike_at s two at_most lets.alike j k)
          ∙ sym (frames_recording (layout_in s) w.memory (fits_true (layout_in s) size (layout_fits s size lets.good two lets.alike)) j k);
      answer = a.0 ∙ rw (zero_unit (write_judged s (length out) size) z) refl;
      rest = ap (drop (bytes_in w)) lent ∙ drop_at file _ (bytes_in w) long;
    }

-- ---- reading

-- while nothing is recorded the write place is the end of the data
pub at-end : (h : Head) → h.recorder.state ≡ Idle → write_place_of h ≡ h.data_len
at-end h e = subst (λ (x : State). elim x [ Triggered write ↦ write | Idle ↦ h.data_len ] ≡ h.data_len) (sym e) refl

-- as many samples as it may hold lie within the capacity from where it begins on; if there are none, it may begin anywhere
begins_inside : (capacity : ℕ) (c : Channel) (n : ℕ) → records c ≡ false → n ≤ holds_of (beside_in capacity c) capacity c.head → 0 < n → begins_in c + n ≤ capacity
unfolding begins_at holds_of
begins_inside capacity c n idle few some = rw idle (go (eqb c.head.data_len 0) few)
  where
    go : (b : Bool) → n ≤ cond b (capacity - (beside_in capacity c).behind) ((beside_in capacity c).next - c.head.start) → cond (b && true) (behind_in c) c.head.start + n ≤ capacity
    go true l = omega (arith, behind_same c.head.start c.head.start capacity 0 (others_in c))
    go false l = omega (arith, next_within c.head.start capacity (others_in c))

-- a file of n samples a channel that is read, from w to u: what lets it through, and what it leaves
pub record Loaded (w u : World) (n : ℕ) (words : List ℕ) : Type 0 where
  pub idle : (j : ℕ) → j < w.sampler.count → records (chan w j) ≡ false
  pub room : (j : ℕ) → j < w.sampler.count → n ≤ holds_of (beside_in w.sampler.capacity (chan w j)) w.sampler.capacity (chan w j).head
  pub head : (j : ℕ) → j < w.sampler.count → chan u j ≡ with_head (beginning (begins_in (chan w j)) n (chan w j).head) (chan w j)
  pub size : (j : ℕ) → length (own_part u j) ≡ length (own_part w j)
  pub before : (j : ℕ) → j < w.sampler.count → take (begins_in (chan w j)) (own_part u j) ≡ take (begins_in (chan w j)) (own_part w j)
  pub stored : (j : ℕ) → j < w.sampler.count → stored_in (record { start = begins_in (chan w j); length = n }) (own_part u j) ≡ channel_words w.sampler.count n j words
  pub rest : (j : ℕ) → j < w.sampler.count → drop (begins_in (chan w j) + n) (own_part u j) ≡ drop (begins_in (chan w j) + n) (own_part w j)
  pub behind : drop (w.sampler.count * w.sampler.capacity) u.memory ≡ drop (w.sampler.count * w.sampler.capacity) w.memory

module _ (w : World) (f : List ℕ) (r : ReadOutcome) (a : Allows (on w (read_wave f)) r) (z : code w (read_wave f) ≡ 0) (two : length w.sampler.channels ≡ 2)
    (v : Wave) (judged : file_judged f ≡ Is v) (n : ℕ) (samples_are : v.samples ≡ n) where
  abbrev rec : Sampler
  rec = w.sampler

  abbrev u : World
  u = left_by w (read_wave f) r

  held : held_in (file_judged f) ≡ v
  held = ap held_in judged

  loads : Loads rec (file_judged f) (length w.memory)
  unfolding call_judged
  loads = read_says rec (file_judged f) (length w.memory) z

  fit : Fitting rec (length w.memory)
  fit = fitting rec (length w.memory) loads.good

  counts : v.channels ≡ rec.count
  counts = sym (ap (λ (x : Wave). x.channels) held) ∙ loads.counts

  left : u ≡ after w (read_wave f)
  left = left_after w (read_wave f) r a

  seated : (j : ℕ) → j < rec.count → j < length rec.channels
  seated j h = omega (arith, fit.few, two)

  idle : (j : ℕ) → j < rec.count → records (chan w j) ≡ false
  idle j h = none_at rec records loads.idle j h (seated j h)

  room : (j : ℕ) → j < rec.count → n ≤ holds_of (beside_in rec.capacity (chan w j)) rec.capacity (chan w j).head
  room j h =
      subst (λ (k : ℕ). k ≤ holds_of (beside_in rec.capacity (chan w j)) rec.capacity (chan w j).head) (ap (λ (x : Wave). x.samples) held ∙ samples_are)
      (loads_few rec (file_judged f) (length w.memory) loads j h (seated j h))

  -- the record
  head_is : (j : ℕ) → j < rec.count → chan u j ≡ with_head (beginning (begins_in (chan w j)) n (chan w j).head) (chan w j)
  unfolding event done_to act head_changed_in head_changed_of table_after several_after found_by phrase_after recorder_after interpolates_after chosen_after
  head_is j h = ap (λ (x : World). chan x j) left ∙ chan_after w two fit.few j h (read_wave f) ∙ rw (done_at (call_judged w (read_wave f)) z, held, samples_are) refl

  capacity_same : u.sampler.capacity ≡ rec.capacity
  capacity_same = ap (λ (x : World). x.sampler.capacity) left ∙ (kept w (read_wave f)).capacity

  -- the memory
  abbrev starts : Starts
  starts = beginnings_in rec

  abbrev then : List ℕ
  then = loaded_of f starts w.memory

  memory_is : u.memory ≡ then
  unfolding call_judged read_memory
  memory_is = a.1 ∙ rw (zero_unit (read_judged rec (file_judged f) (length w.memory)) z) refl

  own_part_lem : (j : ℕ) → own_part u j ≡ part_of rec j then
  unfolding part_of
  own_part_lem j = rw (capacity_same, memory_is) refl

  roomy : 0 < n → Roomy rec fit.few n
  roomy some j h = begins_inside rec.capacity (chan w j) n (idle j h) (room j h) some

  -- every word beside what is read
  else_is : (x : ℕ) → ((j : ℕ) → j < rec.count → (x < start_at starts j) ⊎ (start_at starts j + n ≤ x)) → get_or then x 0 ≡ get_or w.memory x 0
  else_is x beside = promised.loaded_else f v starts w.memory judged x (rw (counts, samples_are) beside)

  sized_as : length then ≡ length w.memory
  sized_as = length_loaded f starts w.memory

  -- of a file without samples that is every word
  all_kept : n ≡ 0 → then ≡ w.memory
  all_kept none = ext_get_or 0 then w.memory sized_as (λ x less. else_is x (λ j h. beside x (start_at starts j) (ltb x (start_at starts j)) refl))
    where
      beside : (x k : ℕ) (b : Bool) → ltb x k ≡ b → (x < k) ⊎ (k + n ≤ x)
      beside x k true e = inl (ltb-true x k e)
      beside x k false e = inr (omega (arith, ltb-false x k e))

  by_samples : {R : Type 0} → (n ≡ 0 → R) → (0 < n → R) → R
  by_samples {R} none some = go (ltb 0 n) refl
    where
      go : (b : Bool) → ltb 0 n ≡ b → R
      go true e = some (ltb-true 0 n e)
      go false e = none (omega (arith, ltb-false 0 n e))

  stored_is : (j : ℕ) → j < rec.count → stored_in (record { start = begins_in (chan w j); length = n }) (part_of rec j then) ≡ channel_words rec.count n j (words_in f v)
  unfolding stored_in listed
  stored_is j h = by_samples (λ none. rw none refl) full
    where
      full : 0 < n → stored_in (record { start = begins_in (chan w j); length = n }) (part_of rec j then) ≡ channel_words rec.count n j (words_in f v)
      full some =
          let fits : fits_memory (layout_of v starts) (length w.memory) ≡ true
          = beginnings_fit rec fit.few (length w.memory) (layout_of v starts) fit counts refl (subst (Roomy rec fit.few) (sym samples_are) (roomy some)) in
          part_read rec fit.few n (roomy some) j h then
          ∙ ap (λ (k : ℕ). recording_at starts k j then) (sym samples_are)
          ∙ promised.loaded_recording f v starts w.memory judged fits j (omega (arith, counts))
          ∙ (λ i. channel_words (counts i) (samples_are i) j (words_in f v))

  pub loaded : Loaded w u n (words_in f v)
  unfolding part_of
  loaded = record {
    idle = idle;
    room = room;
    head = head_is;
    size = λ j. rw (own_part_lem j) (simp (length-take, length-drop) (rw sized_as));
    before = λ j h. rw (own_part_lem j) (by_samples (λ none. rw (all_kept none) refl) (λ some. part_before rec fit.few n (roomy some) then w.memory sized_as else_is j h));
    stored = λ j h. rw (own_part_lem j) (stored_is j h);
    rest = λ j h. rw (own_part_lem j) (by_samples (λ none. rw (all_kept none) refl) (λ some. part-rest rec fit.few n (roomy some) then w.memory sized_as else_is j h));
    behind = rw memory_is (by_samples (λ none. rw (all_kept none) refl) (λ some. parts_rest rec fit.few n (roomy some) then w.memory sized_as else_is));
  }

module _ (w : World) (f : List ℕ) (rate channels : ℕ) (words : List ℕ) (g : IsWave f rate channels words) (r : ReadOutcome) (a : Allows (on w (read_wave f)) r)
    (z : code w (read_wave f) ≡ 0) (two : length w.sampler.channels ≡ 2) where
  k : Known f rate channels words g
  k = good_known f rate channels words g

  t : Loaded w (left_by w (read_wave f) r) g.samples (words_in f k.wave)
  t = loaded w f r a z two k.wave k.judged g.samples k.same_samples

  pub read : Read w (left_by w (read_wave f) r) rate channels g.samples words r.answer.read
  unfolding call_judged read_wave_of
  read = subst (λ (m : ℕ). Read w (left_by w (read_wave f) r) rate m g.samples words r.answer.read) (sym (counts w f r a z two k.wave k.judged g.samples k.same_samples) ∙ k.same_channels) (record {
    rated = ap (λ (b : ReadAnswer). b.read) a.0 ∙ rw (zero_unit (read_judged w.sampler (file_judged f) (length w.memory)) z, k.judged, k.same_rate) refl;
    recordings = λ j h. rw (t.head j h) (t.stored j h ∙ ap (channel_words w.sampler.count g.samples j) k.same_words);
    before = t.before;
    rest = t.rest;
    behind = t.behind;
    write_place = λ j h. ap (λ (c : Channel). write_place_of c.head) (t.head j h)
        ∙ at-end (beginning (begins_in (chan w j)) g.samples (chan w j).head) (not_recording (chan w j).head.recorder (t.idle j h));
    else_kept = t.head;
  })

-- ---- and back
module _ (w : World) (rate : ℕ) (out : List ℕ) (r : ListOutcome) (a : Allows (on w (asks (write_wave rate out))) r) (z : code w (asks (write_wave rate out)) ≡ 0)
    (small : rate < 2 ^ 32) (words : Words w.memory) (two₀ : length w.sampler.channels ≡ 2) where
  there : Written w rate out r
  there = written w rate out r a z small words two₀

  back : (u : World) (q : ReadOutcome) → Allows (on u (read_wave (take (bytes_in w) r.lent))) q → code u (read_wave (take (bytes_in w) r.lent)) ≡ 0
      → length u.sampler.channels ≡ 2
      → (q.answer.read ≡ Ok rate) × ((j : ℕ) → j < w.sampler.count → recording (left_by u (read_wave (take (bytes_in w) r.lent)) q) j ≡ recording w j)
  back u q b y two =
      let f = take (bytes_in w) r.lent in
      let c = read u f rate w.sampler.count there.words there.good q b y two in (
        c.rated,
        λ j h. c.recordings j h ∙ ap (λ (n : ℕ). channel_words w.sampler.count n j there.words) there.samples ∙ sym (there.recordings j h),
      )

pub recordings : (w : World) → Recordings w
unfolding call_judged question_judged write_judged
recordings w = record {
  write_rows = λ rate out.
      code_row (not (good_with w.sampler (length w.memory))) Broken _ _ (code_row (any_recording w.sampler) Recording _ _ (code_row (lengths_differ w.sampler) OtherChannels _ _ (code_row (ltb (length out) (bytes_in w)) ShortList _ _ refl)));
  read_rows = read_rows w;
  bad_rows = bad_rows w;
  written = written w;
  read = read w;
  back = back w;
}
