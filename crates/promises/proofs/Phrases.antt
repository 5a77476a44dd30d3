-- Eight phrases a channel are what request 11/12 says: `specs/Phrases.antt`. Assumes nothing.
--     phrases      what calls do with them.          Number: eight      one number is chosen on all channels.          One: one-phrase      with one phrase all is as before
use mathlib.Core.Path.{◌≡◌, refl, sym, ap, ◌∙◌, subst}
use mathlib.Core.Bool.{Bool, true, false, not, cond, true≢false}
use mathlib.Core.Logic.{◌⊎◌, inl, inr, ◌≢◌}
use mathlib.Core.List.{List, ◌++◌}
use Prim.Native.Nat.{ℕ, zero, suc, ◌+◌, ◌-◌, ◌*◌, ◌^◌, ◌≤◌, ◌<◌}
use native.Mathlib.Nat.{le_trans, le_of_eq, mul-le-mul_right, suc-mul}
use native.Mathlib.Omega.{arith}
use borrow.Author.Tests.{eq-eqb, ne_eqb, eqb-true, eqb-false, leb-false}
use lib.Dec.{eqb, leb}
use lib.ListN.{length, take, drop, get_or, length-drop, take-append-drop}
use lib.Seq.{ext_get_or, drop-drop, length-take-le}
use lib.Ieee.{Float}
use Rattle.std.specs.List.{list_any}
use Rattle.std.specs.Prelude.{is_ok}
use Rattle.refusals.specs.declared.Refusal.TheVariants.{Broken, NoPhrase, PhraseInUse, PhraseRecording}
use Rattle.refusals.proofs.Codes.{done_at, zero_at, passed}
use Rattle.refusals.proofs.Numbers.{code_row}
use Rattle.common_types.specs.declared.Params.{Params}
use Rattle.phrases.specs.declared.Phrase.{Phrase}
use Rattle.phrases.specs.Phrases.{no_phrase, no_samples, reach_of, stored_in, good_phrases}
use Rattle.phrases.specs.Gathering.{samples_of_all, samples_before}
use Rattle.phrases.proofs.Table.{others_chosen}
use Rattle.phrases.proofs.Reaches.{reach_empty, reach_end, behind_reach, behind_there}
use Rattle.phrases.proofs.Gathered.{gather_start, gather_empty, gather_rest}
use Rattle.recorder.specs.declared.Recorder.{Recorder}
use Rattle.recorder.specs.declared.Recorded.{Recorded}
use Rattle.recorder.specs.Recording.{recorded_of}
use Rattle.recorder.proofs.Cases.{by_room, not_recording, sample_idle, sample_next, sample_dropped}
use Rattle.wave.specs.declared.Wave.{Wave}
use Rattle.wave.specs.declared.Judged.{Judged}
use Rattle.wave.specs.declared.Judged.TheVariants.{Is, Refused}
use Rattle.wave.specs.Reader.{words_in, file_judged}
use Rattle.channel.specs.declared.Head.{Head}
use Rattle.channel.specs.declared.Channel.{Channel}
use Rattle.channel.specs.declared.Change.TheVariants as change
use Rattle.channel.specs.declared.HeadChange.{HeadChange}
use Rattle.channel.specs.declared.HeadChange.TheVariants.{StartRecording, Choose, Delete}
use Rattle.channel.specs.Heads.{phrase_by, begins_at, written_in, holds_of, phrase_after, recorder_after, chosen_after, head_changed_of, closed_of}
use Rattle.channel.specs.Tables.{place_of, found_by, head_asks, asks_of, leaving_of, blocked_by}
use Rattle.channel.specs.Channels.{others_in, phrases_in as phrases_of, phrase_at, beside_in, behind_in, begins_in, head_changed_in, gathered_in, gathered_memory, played_of, taken_of, memory_of}
use Rattle.channel.specs.Soundness.{SoundChannel}
use Rattle.channel.proofs.Heads.{passthru_holds, room_own}
use Rattle.channel.proofs.Parts.{parts, phrases_good, phrases_length, phrase_of_all, phrase_inside}
use Rattle.channel.proofs.Anew.{other_of_all, others_eight}
use Rattle.channel.proofs.Gathers.{gathered_phrase, gathered_phrase_length, gathered_stored}
use Rattle.channel.proofs.Phrases.{choose_leaves, delete_leaves, delete_empties, memory_leaves, read_inside, read_leaves}
use Rattle.sampler.specs.declared.Sampler.{Sampler}
use Rattle.sampler.specs.declared.Answer.{Answer}
use Rattle.sampler.specs.Refusals.{present, good_sampler, good_with, records, against_any, gather_judged, sample_judged, frame_judged, any_recording}
use Rattle.sampler.specs.Samplers.{part_of, gather_memory}
use Rattle.sampler.specs.Soundness.{FittingSampler, SoundSampler}
use Rattle.sampler.proofs.Rows.{is_true, good_sizes_lem, sizes_count, Fitting, fitting}
use Rattle.sampler.proofs.Entries.{part_length}
use Rattle.sampler.proofs.Gathered.{gather_part}
use Rattle.sampler.proofs.Kept.{small, channel_sound}
use Rattle.recordings.specs.Waves.{bad_file}
use Rattle.recordings.proofs.Numbers.{Loads, read_says}
use Rattle.fates.specs.Engine.{step_of}
use Rattle.fates.specs.Events.{Event, idle, sounds, act, is_sample}
use Rattle.promises.specs.Runs.{World, Call, change, sample, frame, read_wave, gather, asks, choose_phrase, delete_phrase, start_recording, call_judged, code, after, chan, own_part, done_to, event, row}
use Rattle.promises.specs.Outcomes.{on, Outcome, ReadOutcome, GatherOutcome, Allows, left_by}
use Rattle.promises.specs.Recordings.{write_place_of, beginning}
use Rattle.promises.specs.Phrases.{phrase, chosen, end_of, records_other, in_use, OnlyPhrases, Chosen, Deleted, all_phrases, MovedDown, OthersKept, Behind, Phrases}
use Rattle.promises.proofs.Calls.{Standing, chan_after, kept}
use Rattle.promises.proofs.Memory.{part_written}
use Rattle.promises.proofs.Accepted.{Heard, heard}
use Rattle.promises.proofs.Outcomes.{left_after}
use Rattle.promises.proofs.Recordings.{at-end, Loaded, loaded}
use Rattle.promises.proofs.Broken.{phrase_chosen}
use Rattle.promises.proofs.Phrases.Number.{number_after, number_after_lem}
pub mod Number
pub mod One

-- ---- rows
module _ (w : World) (k : ℕ) where
  choose_rows : code w (choose_phrase k) ≡ row (not (good_sampler w.sampler)) 9 (row (leb 8 k) 19 (row (list_any (records_other k) (present w.sampler)) 21 0))
  unfolding call_judged against_any asks_of head_asks blocked_by
  choose_rows = code_row (not (good_sampler w.sampler)) Broken _ _ (code_row (leb 8 k) NoPhrase _ _ (code_row (list_any (records_other k) (present w.sampler)) PhraseRecording _ _ refl))

  delete_rows : code w (delete_phrase k) ≡ row (not (good_sampler w.sampler)) 9 (row (leb 8 k) 19 (row (list_any (in_use k) (present w.sampler)) 20 0))
  unfolding call_judged against_any asks_of head_asks blocked_by leaving_of
  delete_rows = code_row (not (good_sampler w.sampler)) Broken _ _ (code_row (leb 8 k) NoPhrase _ _ (code_row (list_any (in_use k) (present w.sampler)) PhraseInUse _ _ refl))

-- ---- one phrase of a channel

-- a phrase that isn't chosen goes by the table alone
phrase_other : (h g : Head) → g.chosen ≡ h.chosen → (k : ℕ) → k ≢ h.chosen → (several : Bool) (entry : Phrase) → phrase_by g k several entry ≡ phrase_by h k several entry
unfolding phrase_by
phrase_other h g same k d several entry = rw (same, ne_eqb k h.chosen d)

-- while nothing is recorded the write place is the chosen one's end
place_chosen : (c : Channel) → records c ≡ false → write_place_of c.head ≡ (phrase_at c c.head.chosen).length
place_chosen c stops = at-end c.head (not_recording c.head.recorder stops) ∙ ap (λ (p : Phrase). p.length) (sym (phrase_chosen c))

-- handed no more than its own samples, the recorder leaves it as long as it was
recorded_own : (r : Recorder) (n : ℕ) → (recorded_of r n n).data_len ≡ n
recorded_own r n =
    by_room r n
    (λ stops. ap (λ (d : Recorded). d.data_len) (sample_idle r stops n n))
    (λ write at less. ap (λ (d : Recorded). d.data_len) (sample_next r write at n n less) ∙ omega arith)
    (λ write at over. ap (λ (d : Recorded). d.data_len) (sample_dropped r write at n n over))

-- ---- how far the others reach
module _ (capacity : ℕ) (c : Channel) (s : SoundChannel capacity c) (few : capacity ≤ 2 ^ 22) where
  other : (k : ℕ) → k < 8 → k ≢ c.head.chosen → phrase_at c k ≡ get_or (others_in c) k no_phrase
  other k l d = phrase_of_all capacity c s k l ∙ other_of_all capacity c s k d

  reaches : (k : ℕ) → k < 8 → k ≢ c.head.chosen → (phrase_at c k).length ≢ 0 → reach_of (get_or (others_in c) k no_phrase) ≡ end_of (phrase_at c k)
  reaches k l d some = ap reach_of (sym (other k l d)) ∙ reach_end (phrase_at c k) capacity (phrase_inside capacity c s k) (omega arith) some

  behind_all : (k : ℕ) → k < 8 → k ≢ c.head.chosen → (phrase_at c k).length ≢ 0 → end_of (phrase_at c k) ≤ behind_in c
  behind_all k l d some = omega (arith, behind_reach c.head.start 0 (others_in c) k, reaches k l d some)

  abbrev There : ℕ → Type 0
  There place = (k : ℕ) × (k < 8) × (k ≢ c.head.chosen) × ((phrase_at c k).length ≢ 0) × (place ≡ end_of (phrase_at c k))

  behind_one : (behind_in c ≡ 0) ⊎ There (behind_in c)
  behind_one = go (behind_there c.head.start 0 (others_in c))
    where
      empty : (k : ℕ) → (get_or (others_in c) k no_phrase).length ≡ 0 → behind_in c ≡ reach_of (get_or (others_in c) k no_phrase) → behind_in c ≡ 0
      empty k none e = e ∙ reach_empty (get_or (others_in c) k no_phrase) none

      full : (k : ℕ) → k < 8 → k ≢ c.head.chosen → (get_or (others_in c) k no_phrase).length ≢ 0 → behind_in c ≡ reach_of (get_or (others_in c) k no_phrase) → There (behind_in c)
      full k l d some e =
          let some_here : (phrase_at c k).length ≢ 0 = λ z. some (ap (λ (p : Phrase). p.length) (sym (other k l d)) ∙ z) in
          (k, l, d, some_here, e ∙ reaches k l d some_here)

      at : (k : ℕ) → k < 8 → behind_in c ≡ reach_of (get_or (others_in c) k no_phrase) → (a b : Bool) → eqb k c.head.chosen ≡ a → eqb (get_or (others_in c) k no_phrase).length 0 ≡ b
          → (behind_in c ≡ 0) ⊎ There (behind_in c)
      at k l e a true f g = inl (empty k (eqb-true _ 0 g) e)
      at k l e true false f g = inl (empty k (ap (λ (i : ℕ). (get_or (others_in c) i no_phrase).length) (eqb-true k _ f) ∙ ap (λ (p : Phrase). p.length) (others_chosen c.head.chosen c.table c.several)) e)
      at k l e false false f g = inr (full k l (eqb-false k _ f) (eqb-false _ 0 g) e)

      go : (behind_in c ≡ 0) ⊎ ((k : ℕ) × (k < length (others_in c)) × (behind_in c ≡ reach_of (get_or (others_in c) k no_phrase))) → (behind_in c ≡ 0) ⊎ There (behind_in c)
      go (inl e) = inl e
      go (inr r) = at r.0 (omega (arith, r.1, others_eight capacity c s)) r.2 _ _ refl refl

-- ---- samples or none
with_samples : (p : Phrase) → p.length ≢ 0 → no_samples p ≡ false
unfolding no_samples
with_samples p some = ne_eqb p.length 0 some

without_samples : (p : Phrase) → p.length ≡ 0 → no_samples p ≡ true
unfolding no_samples
without_samples p none = eq-eqb p.length 0 none

-- ---- calls

-- a channel's part lies within the memory
part_inside : (s : Sampler) (size : ℕ) → Fitting s size → (j : ℕ) → j < s.count → j * s.capacity + s.capacity ≤ size
part_inside s size g j l = le_trans (le_of_eq (sym (suc-mul j s.capacity))) (le_trans (mul-le-mul_right s.capacity l) g.fits)

-- and a gather leaves its phrases there moved down
part_gathered : (w : World) → code w gather ≡ 0 → (j : ℕ) → j < w.sampler.count → own_part (after w gather) j ≡ gathered_memory (chan w j) (own_part w j)
unfolding call_judged after part_of
part_gathered w z j l =
    ap (λ (n : ℕ). take n (drop (j * n) (gather_memory w.sampler w.memory))) (kept w gather).capacity
    ∙ gather_part w.sampler w.memory z j l

module _ (w : World) (fit : FittingSampler w.sampler) where
  abbrev s : Sampler
  s = w.sampler

  -- a record that row 9 doesn't answer
  module _ (good : good_sampler s ≡ true) where
    sound : SoundSampler s
    sound = record { good = good; fitting = fit }

    at_most : s.count ≤ 2
    at_most = sizes_count s.count s.capacity (good_sizes_lem s good)

    channel : (j : ℕ) → j < s.count → SoundChannel s.capacity (chan w j)
    channel = channel_sound s sound

    standing : Standing w
    standing = record { two = fit.seats; few = at_most; housing = λ j l. let g = parts (channel j l) in record { places = g.places; room = g.few } }

  -- ---- changes of the heads
  module _ (d : HeadChange) (r : Answer) (a : Allows (on w (change (change.Head d))) r) (z : code w (change (change.Head d)) ≡ 0) where
    head_good : good_sampler s ≡ true
    unfolding call_judged
    head_good = is_true (good_sampler s) (passed (not (good_sampler s)) Broken _ z).0

    head_left : (j : ℕ) → j < s.count → chan (left_by w (change (change.Head d)) r) j ≡ head_changed_in d (chan w j)
    unfolding event done_to act
    head_left j l =
        ap (λ (x : World). chan x j) (left_after w (change (change.Head d)) r a)
        ∙ chan_after w fit.seats (at_most head_good) j l (change (change.Head d))
        ∙ rw (done_at (call_judged w (change (change.Head d))) z) refl

  choice : (k : ℕ) (r : Answer) → Allows (on w (choose_phrase k)) r → code w (choose_phrase k) ≡ 0 → (j : ℕ) → j < s.count → Chosen w (left_by w (choose_phrase k) r) j k
  unfolding call_judged head_changed_in head_changed_of chosen_after recorder_after
  choice k r a z j l = record {
    number = number;
    phrases = phrases;
    write_place = λ stops. place_chosen d (recorder stops) ∙ ap (λ (i : ℕ). (phrase_at d i).length) number ∙ ap (λ (p : Phrase). p.length) (phrases k below);
    else_kept = subst (OnlyPhrases (chan w j)) (sym e) only;
  }
    where
      d : Channel
      d = chan (left_by w (choose_phrase k) r) j

      e : d ≡ head_changed_in (Choose k) (chan w j)
      e = head_left (Choose k) r a z j l

      below : k < 8
      below = leb-false 8 k (passed (leb 8 k) NoPhrase _ (passed (not (good_sampler s)) Broken _ z).1).0

      number : d.head.chosen ≡ k
      number = ap (λ (x : Channel). x.head.chosen) e

      phrases : (i : ℕ) → i < 8 → phrase_at d i ≡ phrase_at (chan w j) i
      phrases i b = ap (λ (x : Channel). phrase_at x i) e ∙ choose_leaves s.capacity (chan w j) (channel (head_good (Choose k) r a z) j l) k below i b

      recorder : records (chan w j) ≡ false → records d ≡ false
      recorder stops = ap records e ∙ stops

      only : OnlyPhrases (chan w j) (head_changed_in (Choose k) (chan w j))
      only = record { voices = refl; count = refl; clock = refl; recorder = refl; passthru = refl }

  delete : (k : ℕ) (r : Answer) → Allows (on w (delete_phrase k)) r → code w (delete_phrase k) ≡ 0 → (j : ℕ) → j < s.count → Deleted w (left_by w (delete_phrase k) r) j k
  unfolding call_judged head_changed_in head_changed_of chosen_after recorder_after
  delete k r a z j l = record {
    empty = ap (λ (x : Channel). (phrase_at x k).length) e ∙ ap (λ (p : Phrase). p.length) (delete_empties s.capacity (chan w j) sounds_so k below);
    others = λ i b n. ap (λ (x : Channel). phrase_at x i) e ∙ delete_leaves s.capacity (chan w j) sounds_so k i b n;
    number = number;
    write_place = λ stops. place_chosen d (recorder stops);
    else_kept = subst (OnlyPhrases (chan w j)) (sym e) only;
  }
    where
      d : Channel
      d = chan (left_by w (delete_phrase k) r) j

      e : d ≡ head_changed_in (Delete k) (chan w j)
      e = head_left (Delete k) r a z j l

      sounds_so : SoundChannel s.capacity (chan w j)
      sounds_so = channel (head_good (Delete k) r a z) j l

      below : k < 8
      below = leb-false 8 k (passed (leb 8 k) NoPhrase _ (passed (not (good_sampler s)) Broken _ z).1).0

      number : d.head.chosen ≡ (chan w j).head.chosen
      number = ap (λ (x : Channel). x.head.chosen) e

      recorder : records (chan w j) ≡ false → records d ≡ false
      recorder stops = ap records e ∙ stops

      only : OnlyPhrases (chan w j) (head_changed_in (Delete k) (chan w j))
      only = record { voices = refl; count = refl; clock = refl; recorder = refl; passthru = refl }

  begins : (r : Answer) → Allows (on w start_recording) r → code w start_recording ≡ 0 → (j : ℕ) → j < s.count → (phrase w j (chosen w j)).length ≡ 0 → records (chan w j) ≡ false
      → Behind w j (phrase (left_by w start_recording r) j (chosen w j)).start
  unfolding begins_at head_changed_in head_changed_of chosen_after phrase_after found_by
  begins r a z j l none stops = subst (Behind w j) (sym there) (record { behind = behind_all s.capacity c known few; there = behind_one s.capacity c known few })
    where
      c : Channel
      c = chan w j

      good : good_sampler s ≡ true
      good = head_good StartRecording r a z

      known : SoundChannel s.capacity c
      known = channel good j l

      few : s.capacity ≤ 2 ^ 22
      few = small s (sound good)

      empty : c.head.data_len ≡ 0
      empty = ap (λ (p : Phrase). p.length) (sym (phrase_chosen (chan w j))) ∙ none

      behind : begins_in c ≡ behind_in c
      behind = rw (eq-eqb (chan w j).head.data_len 0 empty, stops)

      there : (phrase (left_by w start_recording r) j (chosen w j)).start ≡ behind_in c
      there =
          ap (λ (x : Channel). (phrase_at x (chosen w j)).start) (head_left StartRecording r a z j l)
          ∙ ap (λ (p : Phrase). p.start) (phrase_chosen (head_changed_in StartRecording (chan w j)))
          ∙ behind

  -- ---- samples
  module _ (c : Call) (r : Outcome (on w c)) (a : Allows (on w c) r) (j : ℕ) (l : j < s.count) (p : Params) (x : Float) (m : List ℕ) (h : event w c j ≡ sounds p x m) where
    abbrev now : Channel
    now = chan w j

    accepted : code w c ≡ 0
    unfolding event is_sample
    accepted = go (is_ok (call_judged w c)) refl (ap is_sample h)
      where
        go : (b : Bool) → is_ok (call_judged w c) ≡ b → is_sample (cond b (done_to w c j) idle) ≡ true → code w c ≡ 0
        go true e f = zero_at (call_judged w c) e
        go false e f = absurd (true≢false (sym f))

    sampled : (c : Call) → is_sample (done_to w c j) ≡ true → code w c ≡ 0 → good_sampler s ≡ true
    unfolding call_judged done_to is_sample sample_judged frame_judged
    sampled (change d) f z = absurd (true≢false (sym f))
    sampled (sample i y q) f z = (fitting s (length w.memory) (is_true (good_with s (length w.memory)) (passed (not (good_with s (length w.memory))) Broken _ z).0)).good
    sampled (frame xs q) f z = (fitting s (length w.memory) (is_true (good_with s (length w.memory)) (passed (not (good_with s (length w.memory))) Broken _ z).0)).good
    sampled (read_wave g) f z = absurd (true≢false (sym f))
    sampled gather f z = absurd (true≢false (sym f))
    sampled (asks q) f z = absurd (true≢false (sym f))

    good : good_sampler s ≡ true
    unfolding event is_sample
    good = sampled c (sym (ap (λ (b : Bool). is_sample (cond b (done_to w c j) idle)) (done_at (call_judged w c) accepted)) ∙ ap is_sample h) accepted

    known : SoundChannel s.capacity now
    known = channel good j l

    few : s.capacity ≤ 2 ^ 22
    few = small s (sound good)

    hears : Heard w c j p x m
    hears = heard w (standing good) j l p x m c h

    size : length m ≡ s.capacity
    size = ap length hears.part ∙ part_length s j w.memory hears.room

    left : chan (left_by w c r) j ≡ act (sounds p x m) now
    left = ap (λ (u : World). chan u j) (left_after w c r a) ∙ chan_after w fit.seats (at_most good) j l c ∙ ap (λ (e : Event). act e now) h

    same_number : (act (sounds p x m) now).head.chosen ≡ now.head.chosen
    unfolding number_after
    same_number = number_after_lem (sounds p x m) now

    part : own_part (left_by w c r) j ≡ memory_of x now m
    part = ap (λ (u : World). own_part u j) (left_after w c r a) ∙ part_written w j c p x m h

    sample_apart : OthersKept w (left_by w c r) j
    unfolding act step_of played_of taken_of
    sample_apart k b d = (same, (λ i. stored_in (same i) (part i)) ∙ memory_leaves s.capacity now known few x m size k b d ∙ ap (stored_in (phrase_at now k)) hears.part)
      where
        same : phrase (left_by w c r) j k ≡ phrase w j k
        same = ap (λ (y : Channel). phrase_at y k) left ∙ phrase_other now.head (act (sounds p x m) now).head same_number k d now.several (get_or now.table (place_of k) no_phrase)

    not_lengthened : (k : ℕ) → k < 8 → k ≢ chosen w j → (phrase w j k).length ≢ 0 → (phrase w j (chosen w j)).start < end_of (phrase w j k)
        → (phrase (left_by w c r) j (chosen w j)).length ≡ (phrase w j (chosen w j)).length
    unfolding act step_of played_of taken_of closed_of
    not_lengthened k b d some before =
        ap (λ (y : Channel). (phrase_at y (chosen w j)).length) left
        ∙ ap (λ (i : ℕ). (phrase_at (act (sounds p x m) now) i).length) (sym same_number)
        ∙ ap (λ (q : Phrase). q.length) (phrase_chosen (act (sounds p x m) now))
        ∙ length_same
        ∙ ap (λ (q : Phrase). q.length) (sym (phrase_chosen now))
      where
        over : now.head.start < behind_in now
        over = omega (arith, behind_all s.capacity now known few k b d some, ap (λ (q : Phrase). q.start) (phrase_chosen now))

        handed : ℕ → ℕ
        handed n = (written_in (behind_in now) now.head n).to - (written_in (behind_in now) now.head n).from

        own : handed (length m) ≡ now.head.data_len
        own = ap handed size ∙ room_own s.capacity now.head (parts known).head (behind_in now) over

        length_same : (act (sounds p x m) now).head.data_len ≡ now.head.data_len
        length_same =
            passthru_holds (λ (g : Head). g.data_len) (λ on v g. refl) p _ _
            ∙ ap (λ (n : ℕ). (recorded_of now.head.recorder now.head.data_len n).data_len) own
            ∙ recorded_own now.head.recorder now.head.data_len

  -- ---- reads
  module _ (f : List ℕ) (r : ReadOutcome) (a : Allows (on w (read_wave f)) r) (z : code w (read_wave f) ≡ 0) where
    loads : Loads s (file_judged f) (length w.memory)
    unfolding call_judged
    loads = read_says s (file_judged f) (length w.memory) z

    of_wave : (v : Wave) → file_judged f ≡ Is v → (j : ℕ) → j < s.count → OthersKept w (left_by w (read_wave f) r) j
    of_wave v e j l k b d = (same, (λ i. stored_in (same i) (stands i)) ∙ read_leaves s.capacity now known few n quiet fits m words size many k b d)
      where
        n : ℕ
        n = v.samples

        t : Loaded w (left_by w (read_wave f) r) n (words_in f v)
        t = loaded w f r a z fit.seats v e n refl

        g : Fitting s (length w.memory)
        g = fitting s (length w.memory) loads.good

        now : Channel
        now = chan w j

        known : SoundChannel s.capacity now
        known = channel g.good j l

        few : s.capacity ≤ 2 ^ 22
        few = small s (sound g.good)

        quiet : records now ≡ false
        quiet = t.idle j l

        fits : n ≤ holds_of (beside_in s.capacity now) s.capacity now.head
        fits = t.room j l

        m : List ℕ
        m = own_part w j

        after : List ℕ
        after = own_part (left_by w (read_wave f) r) j

        size : length m ≡ s.capacity
        size = part_length s j w.memory (part_inside s (length w.memory) g j l)

        words : List ℕ
        words = take n (drop (begins_in now) after)

        many : length words ≡ n
        many = length-take-le n (drop (begins_in now) after) (omega (arith, read_inside s.capacity now known few n quiet fits, t.size j, size, length-drop (begins_in now) after))

        -- the part is as it was but for them
        stands : after ≡ take (begins_in now) m ++ (words ++ drop (begins_in now + n) m)
        stands =
            sym (take-append-drop (begins_in now) after)
            ∙ (λ i. t.before j l i ++ (sym (take-append-drop n (drop (begins_in now) after)) i))
            ∙ ap (λ (q : List ℕ). take (begins_in now) m ++ (words ++ q)) (drop-drop n (begins_in now) after ∙ t.rest j l)

        same : phrase (left_by w (read_wave f) r) j k ≡ phrase w j k
        same =
            ap (λ (y : Channel). phrase_at y k) (t.head j l)
            ∙ phrase_other now.head (beginning (begins_in now) n now.head) refl k d now.several (get_or now.table (place_of k) no_phrase)

    read_apart : (j : ℕ) → j < s.count → OthersKept w (left_by w (read_wave f) r) j
    read_apart = go (file_judged f) refl
      where
        go : (i : Judged) → file_judged f ≡ i → (j : ℕ) → j < s.count → OthersKept w (left_by w (read_wave f) r) j
        go (Is v) e = of_wave v e
        go Refused e = absurd (true≢false (ap bad_file (sym e) ∙ loads.whole))

  -- ---- a gather
  module _ (r : GatherOutcome) (a : Allows (on w gather) r) (z : code w gather ≡ 0) (j : ℕ) (l : j < s.count) where
    abbrev here : Channel
    here = chan w j

    abbrev m : List ℕ
    m = own_part w j

    whole : Fitting s (length w.memory)
    unfolding call_judged gather_judged
    whole = fitting s (length w.memory) (is_true (good_with s (length w.memory)) (passed (not (good_with s (length w.memory))) Broken _ z).0)

    sound_here : SoundChannel (length m) here
    sound_here = subst (λ (n : ℕ). SoundChannel n here) (sym (part_length s j w.memory (part_inside s (length w.memory) whole j l))) (channel whole.good j l)

    moved : chan (left_by w gather r) j ≡ gathered_in here m
    unfolding event done_to act
    moved = ap (λ (u : World). chan u j) (left_after w gather r a) ∙ chan_after w fit.seats (at_most whole.good) j l gather ∙ rw (done_at (call_judged w gather) z) refl

    moved_part : own_part (left_by w gather r) j ≡ gathered_memory here m
    moved_part = ap (λ (u : World). own_part u j) (left_after w gather r a) ∙ part_gathered w z j l

    -- all phrases, by their numbers
    all : all_phrases w j ≡ phrases_of here
    all = ext_get_or no_phrase (all_phrases w j) (phrases_of here) (sym (phrases_length (length m) here sound_here)) (λ i b. at i b ∙ phrase_of_all (length m) here sound_here i b)
      where
        at : (i : ℕ) → i < 8 → get_or (all_phrases w j) i no_phrase ≡ phrase_at here i
        at zero b = refl
        at (suc zero) b = refl
        at (suc (suc zero)) b = refl
        at (suc (suc (suc zero))) b = refl
        at (suc (suc (suc (suc zero)))) b = refl
        at (suc (suc (suc (suc (suc zero))))) b = refl
        at (suc (suc (suc (suc (suc (suc zero)))))) b = refl
        at (suc (suc (suc (suc (suc (suc (suc zero))))))) b = refl
        at (suc (suc (suc (suc (suc (suc (suc (suc i)))))))) b = absurd (omega arith)

    many : length (phrases_of here) ≡ 8
    many = phrases_length (length m) here sound_here

    fine : good_phrases (length m) (phrases_of here) ≡ true
    fine = phrases_good (length m) here sound_here

    gathering : MovedDown w (left_by w gather r) j
    unfolding gathered_memory gathered_in
    gathering = record {
      keeps = λ k b. (λ i. stored_in (phrase_at (moved i) k) (moved_part i)) ∙ gathered_stored here m sound_here k b;
      lengths = λ k b. ap (λ (x : Channel). (phrase_at x k).length) moved ∙ gathered_phrase_length here m sound_here k b;
      down = λ k b some. let own = phrase_of_all (length m) here sound_here k b in
          ap (λ (x : Channel). (phrase_at x k).start) moved
          ∙ ap (λ (p : Phrase). p.start) (gathered_phrase here m sound_here k b)
          ∙ gather_start (phrases_of here) m many fine k b (ap no_samples (sym own) ∙ with_samples (phrase_at here k) some)
          ∙ (λ i. samples_before (sym own i).start (sym all i));
      empty = λ k b none. let own = phrase_of_all (length m) here sound_here k b in
          ap (λ (x : Channel). phrase_at x k) moved
          ∙ gathered_phrase here m sound_here k b
          ∙ gather_empty (phrases_of here) m many fine k b (ap no_samples (sym own) ∙ without_samples (phrase_at here k) none)
          ∙ sym own;
      free = (λ i. drop (samples_of_all (all i)) (moved_part i)) ∙ free ∙ sym (ap (λ (ps : List Phrase). drop (samples_of_all ps) m) all);
      number = number;
      else_kept = subst (OnlyPhrases here) (sym moved) only;
    }
      where
        free : drop (samples_of_all (phrases_of here)) (gathered_memory here m) ≡ drop (samples_of_all (phrases_of here)) m
        free = gather_rest (phrases_of here) m many fine

        number : chosen (left_by w gather r) j ≡ chosen w j
        number = ap (λ (x : Channel). x.head.chosen) moved

        only : OnlyPhrases here (gathered_in here m)
        only = record { voices = refl; count = refl; clock = refl; recorder = refl; passthru = refl }

pub phrases : (w : World) → Phrases w
unfolding call_judged gather_judged
phrases w = record {
  choose_rows = choose_rows w;
  delete_rows = delete_rows w;
  gather_rows = code_row (not (good_with w.sampler (length w.memory))) Broken _ _ (code_row (any_recording w.sampler) PhraseRecording _ _ refl);
  choice = λ k r a z fit j l. choice w fit k r a z j l;
  delete = λ k r a z fit j l. delete w fit k r a z j l;
  gathering = λ r a z fit j l. gathering w fit r a z j l;
  sample_apart = λ c r a fit j l p x m h. sample_apart w fit c r a j l p x m h;
  read_apart = λ f r a z fit j l. read_apart w fit f r a z j l;
  begins = λ r a z fit j l none stops. begins w fit r a z j l none stops;
  not_lengthened = λ c r a fit j l p x m h. not_lengthened w fit c r a j l p x m h;
}
