-- "With one phrase, number 0, everything equals the base" (request 11/12): a channel with that one alone is what it was before there were phrases, and stays so unless another is chosen. Assumes nothing.
use mathlib.Core.Path.{◌≡◌, refl, sym, ap, ◌∙◌, subst}
use mathlib.Core.Bool.{Bool, true, false, not, ◌&&◌, cond}
use mathlib.Core.Logic.{◌⊎◌, inl, inr, ◌≢◌}
use mathlib.Core.List.{List, [], ◌∷◌, ◌++◌, map, append-nil}
use Prim.Native.Nat.{ℕ, zero, suc, ◌+◌, ◌-◌, ◌≤◌, ◌<◌}
use native.Mathlib.Omega.{arith}
use borrow.Author.Tests.{ltb-true, ltb-false, leb-true}
use lib.Dec.{eqb, leb, ltb}
use lib.ListN.{length, take, drop, get_or, set, replicate, length-take, length-map}
use lib.Seq.{sets, take-length, drop-length, take-set-le}
use lib.Ieee.{Float}
use Rattle.walks.specs.Each.{Each}
use Rattle.walks.proofs.Tests.{either}
use Rattle.walks.proofs.Lists.Every.{both}
use Rattle.walks.proofs.Lists.Each.{each_set, each_push, each_map, each_without, fewer, front_sets}
use Rattle.common_types.specs.declared.Params.{Params}
use Rattle.common_types.specs.declared.Note.{Note}
use Rattle.binary32.specs.Leaves.{bits_of}
use Rattle.phrases.specs.declared.Phrase.{Phrase}
use Rattle.phrases.specs.declared.Room.{Room}
use Rattle.phrases.specs.Phrases.{no_phrase, no_samples, others_of, stored_in, room_of}
use Rattle.phrases.specs.Gathering.{Gathering, first_below, first_from, gather_phrase, gather_next, gather_turns, gathering_of}
use Rattle.recorder.specs.Recording.{recorded_of, data_after}
use Rattle.voice.specs.declared.Voice.{Voice}
use Rattle.voice.specs.Voices.{finish_of, blank_voice}
use Rattle.voice.proofs.PhraseKept.{fresh_phrase, blank_phrase, finish_phrase}
use Rattle.channel.specs.declared.Head.{Head}
use Rattle.channel.specs.declared.Channel.{Channel}
use Rattle.channel.specs.declared.Change.TheVariants as change
use Rattle.channel.specs.declared.HeadChange.{HeadChange}
use Rattle.channel.specs.declared.HeadChange.TheVariants.{StartRecording, StopRecording, Interpolate, Load, Choose, Delete}
use Rattle.std.specs.Prelude.{Option, Some, None}
use Rattle.std.specs.Option.{option_map_or}
use Rattle.channel.specs.Heads.{with_recorded, recording_in, head_of, moment_on, moment_of, chosen_after, head_changed_of, closed_of}
use Rattle.channel.specs.Tables.{place_of}
use Rattle.channel.specs.Channels.{with_head, with_voices, live, phrases_in, phrase_at, moment_for, handled_of, pushed_of, find_of, finished_at_of, stop_playing_of, sped_of, set_note_speed_of, head_changed_in, reset_of, gathered_in, kept_of, played_of, taken_of, memory_of}
use Rattle.channel.proofs.Heads.{passthru_holds}
use Rattle.channel.proofs.One.{one_recording, one_written, one_holds, one_stays}
use Rattle.fates.specs.Engine.{born_of, begun_of, turns_in, step_of}
use Rattle.fates.specs.Events.{Event, idle, changes, gathers, sounds, act}
use Rattle.fates.specs.Places.{becomes}
use Rattle.fates.proofs.Clocks.{finished_holds, started_holds}
use Rattle.fates.proofs.Own.{becomes_phrase}
use Rattle.promises.specs.Phrases.{OnePhrase, AsBefore, Base}
use Rattle.promises.proofs.Broken.{front_holds}

-- ---- what it was
module _ (c : Channel) (m : List ℕ) (o : OnePhrase c) where
  abbrev h : Head
  h = c.head

  all : length m - 0 ≡ length m
  all = omega arith

  own : phrase_at c h.chosen ≡ recording_in h
  own = one_recording c o.alone h.chosen refl

  its : (v : Voice) → v.phrase ≡ 0 → v.phrase ≡ h.chosen
  its v e = e ∙ sym o.number

  as_before : AsBefore c m
  unfolding taken_of memory_of stored_in
  as_before = record {
    taken =
        ap (λ (r : Room). with_head (with_recorded (recorded_of h.recorder h.data_len (r.to - r.from)) h) c) (one_written c o.alone o.start (length m))
        ∙ ap (λ (n : ℕ). with_head (with_recorded (recorded_of h.recorder h.data_len n) h) c) all;
    memory = λ x.
        ap (λ (r : Room). take r.from m ++ (data_after h.recorder (bits_of x) (take (r.to - r.from) (drop r.from m)) ++ drop r.to m)) (one_written c o.alone o.start (length m))
        ∙ (λ i. data_after h.recorder (bits_of x) ((ap (λ (n : ℕ). take n m) all ∙ take-length m) i) ++ drop-length m i)
        ∙ append-nil (data_after h.recorder (bits_of x) m);
    moment = λ v e. ap (moment_for c) (its v e) ∙ ap (λ (p : Phrase). moment_on h h.chosen p.length) own;
    recording = λ v e. ap (λ (k : ℕ). stored_in (phrase_at c k) m) (its v e) ∙ ap (λ (p : Phrase). stored_in p m) own ∙ ap (λ (n : ℕ). take h.data_len (drop n m)) o.start;
    room = one_holds c o.alone o.start;
  }

-- ---- gathered, it stays where it is
abbrev first : ℕ → List Phrase
first n = record { start = 0; length = n } ∷ replicate 7 no_phrase

record Alone (n : ℕ) (g : Gathering) : Type 0 where
  phrases : g.phrases ≡ first n
  stands : (g.to ≡ 0) ⊎ (0 < g.from)

none_or : (n : ℕ) → (n ≡ 0) ⊎ (0 < n)
none_or zero = inl refl
none_or (suc n) = inr (omega arith)

first_found : (place n : ℕ) → first_from place (first n) ≡ cond ((not (eqb n 0) && leb place 0) && true) (Some 0) None
unfolding first_below no_samples
first_found place n = refl

turn_alone : (n : ℕ) (m : List ℕ) (from to : ℕ) → (to ≡ 0) ⊎ (0 < from) → Alone n (gather_next (record { phrases = first n; memory = m; from = from; to = to }))
unfolding gather_next gather_phrase
turn_alone n m from to s = subst (λ (found : Option ℕ). Alone n (option_map_or (λ k. gather_phrase k g) found g)) (sym (first_found from n)) (go (not (eqb n 0) && leb from 0) refl)
  where
    g : Gathering
    g = record { phrases = first n; memory = m; from = from; to = to }

    down : from ≡ 0 → (to ≡ 0) ⊎ (0 < from) → to ≡ 0
    down e (inl z) = z
    down e (inr l) = absurd (omega arith)

    moved : to ≡ 0 → Alone n (gather_phrase 0 g)
    moved e = record { phrases = ap (λ (t : ℕ). record { start = t; length = n } ∷ replicate 7 no_phrase) e; stands = on (none_or (r.to - r.from)) }
      where
        r : Room
        r = room_of (record { start = 0; length = n }) (length m)

        on : (r.to - r.from ≡ 0) ⊎ (0 < r.to - r.from) → (to + (r.to - r.from) ≡ 0) ⊎ (0 < r.to)
        on (inl z) = inl (omega arith)
        on (inr l) = inr (omega arith)

    go : (b : Bool) → (not (eqb n 0) && leb from 0) ≡ b → Alone n (option_map_or (λ k. gather_phrase k g) (cond (b && true) (Some 0) None) g)
    go true e =
        let low = leb-true from 0 (both (not (eqb n 0)) (leb from 0) e).1 in
        moved (down (omega arith) s)
    go false e = record { phrases = refl; stands = s }

turns_alone : (k n : ℕ) (g : Gathering) → Alone n g → Alone n (gather_turns k g)
unfolding gather_turns
turns_alone zero n g a = a
turns_alone (suc k) n g a =
    turns_alone k n (gather_next g)
    (subst (λ (ps : List Phrase). Alone n (gather_next (record { phrases = ps; memory = g.memory; from = g.from; to = g.to }))) (sym a.phrases) (turn_alone n g.memory g.from g.to a.stands))

gathered_alone : (n : ℕ) (m : List ℕ) → (gathering_of (first n) m).phrases ≡ first n
unfolding gathering_of
gathered_alone n m = (turns_alone 8 n (record { phrases = first n; memory = m; from = 0; to = 0 }) (record { phrases = refl; stands = inl refl })).phrases

-- ---- it stays one
abbrev Its : Voice → Type 0
Its v = v.phrase ≡ 0

each_sets : {A : Type 0} (P : A → Type 0) (n : ℕ) (vs l : List A) (i : ℕ) → Each P (take n l) → Each P vs → Each P (take n (sets l i vs))
unfolding Each
each_sets P n [] l i h k = h
each_sets P n (v ∷ vs) l i h k = each_sets P n vs (set l i v) (suc i) (each_set P l n i v h k.0) k.1

module _ (c : Channel) (o : OnePhrase c) where
  pushed : (v : Voice) → Its v → Each Its (live (pushed_of v c))
  unfolding pushed_of
  pushed v e = go (ltb c.count 32)
    where
      go : (b : Bool) → Each Its (live (cond b (with_voices (set c.voices c.count v) (c.count + 1) c) c))
      go true = each_push Its c.voices c.count v o.voices e
      go false = o.voices

  started : (p : Params) (position : Float) (note : Note) (velocity : Float) → OnePhrase (begun_of p position note velocity c)
  unfolding begun_of handled_of pushed_of
  started p position note velocity = record {
    number = started_holds (λ (h : Head). h.chosen) (λ on v h. refl) p position note velocity c ∙ o.number;
    start = started_holds (λ (h : Head). h.start) (λ on v h. refl) p position note velocity c ∙ o.start;
    alone = either (λ (d : Channel). d.several) (eqb c.head.data_len 0) c _ false o.alone (either (λ (d : Channel). d.several) (ltb c.count 32) _ c false o.alone o.alone);
    voices = go (eqb c.head.data_len 0);
  }
    where
      v : Voice
      v = born_of p position note velocity c

      go : (b : Bool) → Each Its (live (cond b c (handled_of p (pushed_of v c))))
      go true = o.voices
      go false = pushed v (fresh_phrase p position note velocity (moment_of c.head) ∙ o.number)

  finished : (p : Params) (f : Option ℕ) → OnePhrase (finished_at_of p c f)
  unfolding finished_at_of handled_of
  finished p f = record {
    number = finished_holds (λ (h : Head). h.chosen) (λ on v h. refl) p c f ∙ o.number;
    start = finished_holds (λ (h : Head). h.start) (λ on v h. refl) p c f ∙ o.start;
    alone = alone f;
    voices = voices f;
  }
    where
      alone : (f : Option ℕ) → (finished_at_of p c f).several ≡ false
      alone None = o.alone
      alone (Some i) = either (λ (d : Channel). d.several) (ltb i 32) _ c false o.alone o.alone

      -- the voice at a place past those that there are is none of them
      set_in : (i : ℕ) (b : Bool) → ltb i c.count ≡ b → Each Its (take c.count (set c.voices i (finish_of c.head.now p.decay_samples (get_or c.voices i blank_voice))))
      set_in i true e =
          each_set Its c.voices c.count i _ o.voices
          (finish_phrase c.head.now p.decay_samples (get_or c.voices i blank_voice) ∙ front_holds Its blank_voice blank_phrase c.voices c.count o.voices i (ltb-true i c.count e))
      set_in i false e = subst (Each Its) (sym (take-set-le c.count c.voices i _ (ltb-false i c.count e))) o.voices

      within : (i : ℕ) (b : Bool)
          → Each Its (live (cond b (handled_of p (with_voices (set c.voices i (finish_of c.head.now p.decay_samples (get_or c.voices i blank_voice))) c.count c)) c))
      within i true = set_in i (ltb i c.count) refl
      within i false = o.voices

      voices : (f : Option ℕ) → Each Its (live (finished_at_of p c f))
      voices None = o.voices
      voices (Some i) = within i (ltb i 32)

  sped : (note : Note) (speed : Float) → OnePhrase (set_note_speed_of note speed c)
  unfolding set_note_speed_of becomes
  sped note speed = record {
    number = o.number;
    start = o.start;
    alone = o.alone;
    voices = each_sets Its c.count (map (sped_of note speed) (live c)) c.voices 0 o.voices
        (each_map Its Its (sped_of note speed) (λ v e. becomes_phrase (changes (change.Speed note speed)) c 0 v ∙ e) (live c) o.voices);
  }

  head_changed : (d : HeadChange) → ((k : ℕ) → d ≢ Choose k) → OnePhrase (head_changed_in d c)
  unfolding head_changed_in head_changed_of chosen_after
  head_changed d not = record { number = same d not ∙ o.number; start = stays.1; alone = stays.0; voices = o.voices }
    where
      same : (d : HeadChange) → ((k : ℕ) → d ≢ Choose k) → chosen_after d c.head.chosen ≡ c.head.chosen
      same StartRecording not = refl
      same StopRecording not = refl
      same (Interpolate on) not = refl
      same (Load samples) not = refl
      same (Choose k) not = absurd (not k refl)
      same (Delete k) not = refl

      stays : ((head_changed_in d c).several ≡ false) × ((head_changed_in d c).head.start ≡ 0)
      stays = one_stays c o.alone o.start d (same d not)

  gathered : (m : List ℕ) → OnePhrase (gathered_in c m)
  unfolding gathered_in others_of
  gathered m = record { number = o.number; start = start; alone = o.alone; voices = o.voices }
    where
      whole : phrases_in c ≡ first c.head.data_len
      whole = λ i. set (others_of (o.alone i) (o.number i) c.table) (o.number i) (record { start = o.start i; length = c.head.data_len })

      start : (get_or (gathering_of (phrases_in c) m).phrases (place_of c.head.chosen) no_phrase).start ≡ 0
      start =
          (λ i. (get_or (gathering_of (whole i) m).phrases (place_of (o.number i)) no_phrase).start)
          ∙ ap (λ (ps : List Phrase). (get_or ps (place_of 0) no_phrase).start) (gathered_alone c.head.data_len m)

  sounded : (p : Params) (x : Float) (m : List ℕ) → OnePhrase (step_of p x c m).channel
  unfolding step_of played_of kept_of taken_of becomes closed_of
  sounded p x m = record {
    number = passthru_holds (λ (h : Head). h.chosen) (λ on v h. refl) p _ _ ∙ o.number;
    start = passthru_holds (λ (h : Head). h.start) (λ on v h. refl) p _ _ ∙ o.start;
    alone = o.alone;
    voices = subst (Each Its) (sym (front_sets c.voices left few)) (each_without Its (turns_in p x m c).leaves turned (each_map Its Its (turns_in p x m c).turn (λ v e. becomes_phrase (sounds p x m) c 0 v ∙ e) (live c) o.voices));
  }
    where
      turned : List Voice
      turned = map (turns_in p x m c).turn (live c)

      left : List Voice
      left = kept_of (turns_in p x m c) (live c)

      few : length left ≤ length c.voices
      few = omega (arith, fewer (turns_in p x m c).leaves turned, length-map (live c) (turns_in p x m c).turn, length-take c.count c.voices)

stays : (c : Channel) (e : Event) → OnePhrase c → ((k : ℕ) → e ≢ changes (change.Head (Choose k))) → OnePhrase (act e c)
unfolding act stop_playing_of reset_of head_of Each
stays c idle o not = o
stays c (changes (change.Start p position note velocity)) o not = started c o p position note velocity
stays c (changes (change.Stop p note)) o not = finished c o p (find_of note c)
stays c (changes (change.Speed note speed)) o not = sped c o note speed
stays c (changes (change.Head d)) o not = head_changed c o d (λ k e. not k (ap (λ (x : HeadChange). changes (change.Head x)) e))
stays c (changes change.Reset) o not = record { number = refl; start = refl; alone = refl; voices = tt }
stays c (gathers m) o not = gathered c o m
stays c (sounds p x m) o not = sounded c o p x m

pub one_phrase : Base
one_phrase = record { as_before = as_before; stays = stays }
