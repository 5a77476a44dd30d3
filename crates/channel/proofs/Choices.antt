-- What a choice and a delete make of a channel's phrases: a choice moves none, a delete empties one. Assumes nothing.
use mathlib.Core.Path.{◌≡◌, refl, sym, ap, ◌∙◌}
use mathlib.Core.Bool.{Bool, true, false, ◌&&◌, ◌||◌, cond}
use mathlib.Core.List.{List}
use Prim.Native.Nat.{ℕ, ◌<◌}
use lib.Dec.{eqb, ltb}
use lib.ListN.{length, get_or, set}
use lib.Seq.{get_or-set_other, set-get_or, set-set, set_comm}
use borrow.Author.Tests.{eqb-true, eqb-false, eq-eqb, ne_eqb, lt-ltb, lt-leb}
use Rattle.walks.proofs.Tests.{or-false}
use Rattle.phrases.specs.declared.Phrase.{Phrase}
use Rattle.phrases.specs.Phrases.{no_phrase, no_phrases, empty_from, others_of}
use Rattle.phrases.proofs.Table.{none_at}
use Rattle.channel.specs.Heads.{recording_in, with_recorded, phrase_after, recorder_after, interpolates_after, chosen_after, head_changed_of}
use Rattle.channel.specs.Tables.{place_of, with_recording, table_after, several_after, head_names, found_by}
use Rattle.channel.specs.Channels.{others_in, phrases_in, head_changed_in}
use Rattle.channel.specs.declared.Head.{Head}
use Rattle.channel.specs.declared.Channel.{Channel}
use Rattle.channel.specs.declared.HeadChange.TheVariants.{Choose, Delete}
use Rattle.channel.proofs.Tables.{place_below, all_chosen}

or-true : (b : Bool) → (b || true) ≡ true
or-true true = refl
or-true false = refl

module _ (c : Channel) (l : c.head.chosen < 8) (k : ℕ) where
  abbrev h : Head
  h = c.head

  -- ---- a choice
  pub choose_same : k ≡ h.chosen → head_changed_in (Choose k) c ≡ c
  unfolding head_changed_in head_changed_of table_after several_after phrase_after recorder_after interpolates_after chosen_after
  choose_same e = rw (eq-eqb k h.chosen e, ← or-false c.several, e)

  -- the phrase that it finds
  abbrev found : Phrase
  found = cond (c.several && ltb k 8) (get_or c.table (place_of k) no_phrase) no_phrase

  abbrev pub chosen_head : Head
  chosen_head = record {
    now = h.now;
    data_len = found.length;
    start = found.start;
    passthru_volume = h.passthru_volume;
    recorder = h.recorder;
    passthru_on = h.passthru_on;
    interpolates = h.interpolates;
    chosen = k;
  }

  abbrev pub chosen_table : List Phrase
  chosen_table = with_recording h (cond c.several c.table no_phrases)

  pub choose_other : (k ≡ h.chosen → ⊥) → head_changed_in (Choose k) c ≡ record { voices = c.voices; table = chosen_table; count = c.count; head = chosen_head; several = true }
  unfolding head_changed_in head_changed_of table_after several_after phrase_after recorder_after interpolates_after chosen_after found_by head_names
  choose_other d = rw (ne_eqb k h.chosen d, lt-leb 8 h.chosen l, or-true c.several)

  -- it moves no phrase
  pub phrases_chosen : k < 8 → phrases_in (head_changed_in (Choose k) c) ≡ phrases_in c
  unfolding others_of
  phrases_chosen below = go (eqb k h.chosen) refl
    where
      -- all of them, looked at as a table
      whole : chosen_table ≡ phrases_in c
      whole = each c.several
        where
          each : (b : Bool) → with_recording h (cond b c.table no_phrases) ≡ with_recording h (others_of b h.chosen c.table)
          each true = sym (set-set c.table h.chosen no_phrase (recording_in h))
          each false = refl

      there : found ≡ get_or (cond c.several c.table no_phrases) k no_phrase
      there = each c.several
        where
          each : (b : Bool) → cond (b && ltb k 8) (get_or c.table (place_of k) no_phrase) no_phrase ≡ get_or (cond b c.table no_phrases) k no_phrase
          each true = rw (lt-ltb k 8 below, place_below k below)
          each false = sym (none_at k)

      go : (b : Bool) → eqb k h.chosen ≡ b → phrases_in (head_changed_in (Choose k) c) ≡ phrases_in c
      go true e = ap phrases_in (choose_same (eqb-true k h.chosen e))
      go false e =
          let d : k ≡ h.chosen → ⊥ = eqb-false k h.chosen e in
          ap phrases_in (choose_other d)
          ∙ set-set chosen_table k no_phrase found
          ∙ ap (λ (p : Phrase). set chosen_table k p) (there ∙ sym (get_or-set_other (cond c.several c.table no_phrases) h.chosen k (recording_in h) no_phrase d))
          ∙ set-get_or chosen_table k no_phrase
          ∙ whole

  -- ---- a delete
  abbrev pub deleted_table : List Phrase
  deleted_table = set c.table k (empty_from (get_or c.table k no_phrase).start)

  pub delete_chosen : k ≡ h.chosen → head_changed_in (Delete k) c ≡ record { voices = c.voices; table = deleted_table; count = c.count; head = with_recorded (record { recorder = h.recorder; data_len = 0 }) h; several = c.several }
  unfolding head_changed_in head_changed_of table_after several_after phrase_after recorder_after interpolates_after chosen_after
  delete_chosen e = rw (eq-eqb k h.chosen e)

  pub delete_other : (k ≡ h.chosen → ⊥) → head_changed_in (Delete k) c ≡ record { voices = c.voices; table = deleted_table; count = c.count; head = h; several = c.several }
  unfolding head_changed_in head_changed_of table_after several_after phrase_after recorder_after interpolates_after chosen_after
  delete_other d = rw (ne_eqb k h.chosen d)

  -- it empties that phrase, and leaves where it begins
  pub phrases_deleted : length c.table ≡ 8 → phrases_in (head_changed_in (Delete k) c) ≡ set (phrases_in c) k (empty_from (get_or (phrases_in c) k no_phrase).start)
  unfolding others_of
  phrases_deleted eight = go (eqb k h.chosen) refl
    where
      -- the chosen one's entry isn't looked at
      away : k ≡ h.chosen → (b : Bool) → others_of b h.chosen deleted_table ≡ others_of b h.chosen c.table
      away e true = rw e (set-set c.table h.chosen (empty_from (get_or c.table h.chosen no_phrase).start) no_phrase)
      away e false = refl

      each : (k ≡ h.chosen → ⊥) → (b : Bool) → with_recording h (others_of b h.chosen deleted_table)
          ≡ set (with_recording h (others_of b h.chosen c.table)) k (empty_from (get_or (with_recording h (others_of b h.chosen c.table)) k no_phrase).start)
      each d true =
          let e : Phrase = empty_from (get_or c.table k no_phrase).start in
          let all : List Phrase = with_recording h (set c.table h.chosen no_phrase) in
          let at : get_or all k no_phrase ≡ get_or c.table k no_phrase =
          get_or-set_other (set c.table h.chosen no_phrase) h.chosen k (recording_in h) no_phrase d ∙ get_or-set_other c.table h.chosen k no_phrase no_phrase d in
          set-set deleted_table h.chosen no_phrase (recording_in h)
          ∙ set_comm c.table k h.chosen e (recording_in h) d
          ∙ ap (λ (l : List Phrase). set l k e) (sym (set-set c.table h.chosen no_phrase (recording_in h)))
          ∙ ap (λ (p : Phrase). set all k (empty_from p.start)) (sym at)
      each d false =
          let all : List Phrase = with_recording h no_phrases in
          let at : get_or all k no_phrase ≡ no_phrase = get_or-set_other no_phrases h.chosen k (recording_in h) no_phrase d ∙ none_at k in
          sym (set-get_or all k no_phrase) ∙ ap (λ (p : Phrase). set all k p) (at ∙ ap (λ (p : Phrase). empty_from p.start) (sym at))

      go : (b : Bool) → eqb k h.chosen ≡ b → phrases_in (head_changed_in (Delete k) c) ≡ set (phrases_in c) k (empty_from (get_or (phrases_in c) k no_phrase).start)
      go true e =
          let at : k ≡ h.chosen = eqb-true k h.chosen e in
          ap phrases_in (delete_chosen at)
          ∙ ap (λ (l : List Phrase). set l h.chosen (empty_from h.start)) (away at c.several)
          ∙ sym (set-set (others_in c) h.chosen (recording_in h) (empty_from h.start))
          ∙ ap (λ (p : Phrase). set (phrases_in c) h.chosen (empty_from p.start)) (sym (all_chosen h c.several c.table eight l))
          ∙ ap (λ (j : ℕ). set (phrases_in c) j (empty_from (get_or (phrases_in c) j no_phrase).start)) (sym at)
      go false e =
          let d : k ≡ h.chosen → ⊥ = eqb-false k h.chosen e in
          ap phrases_in (delete_other d) ∙ each d c.several
