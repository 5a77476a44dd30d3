-- What a change stores in the table of phrases: the table with it is that after the change, and its place is one of the eight. Assumes nothing.
use mathlib.Core.Path.{◌≡◌, refl, sym, ap, ◌∙◌}
use mathlib.Core.Bool.{Bool, true, false, not, ◌||◌, cond}
use mathlib.Core.List.{List}
use Prim.Native.Nat.{ℕ, ◌+◌, ◌<◌}
use native.Mathlib.Nat.{min-le_right}
use native.Mathlib.Omega.{arith}
use lib.Dec.{leb, ltb, eqb}
use lib.Ieee.{Float}
use lib.ListN.{length, get_or, set}
use lib.Seq.{set_out, set-get_or}
use borrow.Author.Tests.{leb-true, leb-false}
use Rattle.walks.proofs.Tests.{neither, either}
use Rattle.binary32.proofs.Truth.{cond_split}
use Rattle.common_types.specs.declared.Note.{Note}
use Rattle.common_types.specs.declared.Params.{Params}
use Rattle.phrases.specs.declared.Phrase.{Phrase}
use Rattle.phrases.specs.Phrases.{no_phrase, no_phrases, empty_from}
use Rattle.voice.specs.declared.Voice.{Voice}
use Rattle.voice.specs.Voices.{finish_of, fresh_of, blank_voice}
use Rattle.channel.specs.Heads.{recording_in, moment_of}
use Rattle.channel.specs.Tables.{place_of, with_recording, stays_chosen, table_after, several_after, head_names, names_of, entry_kept, head_entry, entry_stored, stored_by}
use Rattle.channel.specs.Channels.{with_head, with_voices, head_changed_in, handled_of, pushed_of, start_playing_of, find_of, finished_at_of, stop_playing_of, set_note_speed_of, reset_of, changed_of}
use Rattle.channel.specs.declared.Head.{Head}
use Rattle.channel.specs.declared.Channel.{Channel}
use Rattle.channel.specs.declared.Entry.{Entry}
use Rattle.std.specs.Prelude.{Option, Some, None}
use Rattle.channel.specs.declared.Change.{Change}
use Rattle.channel.specs.declared.Change.TheVariants as change
use Rattle.channel.specs.declared.HeadChange.{HeadChange}
use Rattle.channel.specs.declared.HeadChange.TheVariants.{StartRecording, StopRecording, Interpolate, Load, Choose, Delete}
use Rattle.channel.proofs.Tables.{place_below}

-- what a choice of another phrase stores
abbrev put : Head → Bool → Entry
put h several = record { place = place_of h.chosen; phrase = recording_in h; clears = not several; several = true }

-- ---- the place that is stored to
pub placed_below : (k : ℕ) → place_of k < 8
placed_below k = omega (arith, min-le_right k 7)

pub head_entry_below : (d : HeadChange) (h : Head) (several : Bool) (entry : Phrase) → (head_entry d h several entry).place < 8
unfolding head_entry
head_entry_below StartRecording h several entry = omega arith
head_entry_below StopRecording h several entry = omega arith
head_entry_below (Interpolate on) h several entry = omega arith
head_entry_below (Load samples) h several entry = omega arith
head_entry_below (Choose k) h several entry =
    cond_split (λ (e : Entry). e.place < 8) (stays_chosen k h) (entry_kept several (place_of k) entry) (put h several) (λ t. placed_below k) (λ t. placed_below h.chosen)
head_entry_below (Delete k) h several entry = placed_below k

pub entry_below : (x : Change) (h : Head) (several : Bool) (entry : Phrase) → (entry_stored x h several entry).place < 8
unfolding entry_stored
entry_below (change.Start p position note velocity) h several entry = omega arith
entry_below (change.Stop p note) h several entry = omega arith
entry_below (change.Speed note speed) h several entry = omega arith
entry_below (change.Head d) h several entry = head_entry_below d h several entry
entry_below change.Reset h several entry = omega arith

-- ---- the table with what is stored
-- an entry that is stored again leaves it
kept : (several : Bool) (place : ℕ) (table : List Phrase) → stored_by (entry_kept several place (get_or table place no_phrase)) table ≡ table
unfolding stored_by
kept several place table = set-get_or table place no_phrase

pub head_stored : (d : HeadChange) (h : Head) (several : Bool) (table : List Phrase) → length table ≡ 8
    → stored_by (head_entry d h several (get_or table (place_of (head_names d)) no_phrase)) table ≡ table_after d h several table
unfolding head_entry head_names table_after stored_by
head_stored StartRecording h several table eight = kept several 0 table
head_stored StopRecording h several table eight = kept several 0 table
head_stored (Interpolate on) h several table eight = kept several 0 table
head_stored (Load samples) h several table eight = kept several 0 table
head_stored (Choose k) h several table eight = go (stays_chosen k h) refl
  where
    other : (b : Bool) → set (cond (not b) no_phrases table) h.chosen (recording_in h) ≡ with_recording h (cond b table no_phrases)
    other true = refl
    other false = refl

    go : (b : Bool) → stays_chosen k h ≡ b
        → stored_by (cond b (entry_kept several (place_of k) (get_or table (place_of k) no_phrase)) (put h several)) table ≡ cond b table (with_recording h (cond several table no_phrases))
    go true e = kept several (place_of k) table
    go false e =
        ap (λ (n : ℕ). set (cond (not several) no_phrases table) n (recording_in h)) (place_below h.chosen (leb-false 8 h.chosen (neither (eqb k h.chosen) (leb 8 h.chosen) e).1))
        ∙ other several
head_stored (Delete k) h several table eight = go (leb 8 k) refl
  where
    go : (b : Bool) → leb 8 k ≡ b
        → stored_by (entry_kept several (place_of k) (cond b (get_or table (place_of k) no_phrase) (empty_from (get_or table (place_of k) no_phrase).start))) table
        ≡ set table k (empty_from (get_or table k no_phrase).start)
    go true e =
        let past = leb-true 8 k e in
        kept several (place_of k) table ∙ sym (set_out table k (empty_from (get_or table k no_phrase).start) (omega (arith, past, eight)))
    go false e = ap (λ (n : ℕ). set table n (empty_from (get_or table n no_phrase).start)) (place_below k (leb-false 8 k e))

-- whether there are several then
pub head_several : (d : HeadChange) (h : Head) (several : Bool) (entry : Phrase) → (head_entry d h several entry).several ≡ several_after d h several
unfolding head_entry several_after
head_several StartRecording h several entry = refl
head_several StopRecording h several entry = refl
head_several (Interpolate on) h several entry = refl
head_several (Load samples) h several entry = refl
head_several (Choose k) h several entry = go several (stays_chosen k h)
  where
    go : (s b : Bool) → (cond b (entry_kept s (place_of k) entry) (put h several)).several ≡ (s || not b)
    go true true = refl
    go true false = refl
    go false true = refl
    go false false = refl
head_several (Delete k) h several entry = refl

-- ---- what heads and voices don't touch, the changes of voices hold
module _ {A : Type 0} (f : Channel → A) (heads : (h : Head) (c : Channel) → f (with_head h c) ≡ f c)
    (voices : (vs : List Voice) (n : ℕ) (c : Channel) → f (with_voices vs n c) ≡ f c) where
  handled_holds : (p : Params) (c : Channel) → f (handled_of p c) ≡ f c
  unfolding handled_of
  handled_holds p c = heads _ c

  pushed_holds : (v : Voice) (c : Channel) → f (pushed_of v c) ≡ f c
  unfolding pushed_of
  pushed_holds v c = either f (ltb c.count 32) (with_voices (set c.voices c.count v) (c.count + 1) c) c (f c) (voices _ _ c) refl

  finished_holds : (p : Params) (c : Channel) (found : Option ℕ) → f (finished_at_of p c found) ≡ f c
  unfolding finished_at_of
  finished_holds p c None = refl
  finished_holds p c (Some i) =
      let vs = set c.voices i (finish_of c.head.now p.decay_samples (get_or c.voices i blank_voice)) in
      either f (ltb i 32) (handled_of p (with_voices vs c.count c)) c (f c) (handled_holds p (with_voices vs c.count c) ∙ voices vs c.count c) refl

  pub start_holds : (p : Params) (position : Float) (note : Note) (velocity : Float) (c : Channel) → f (start_playing_of p position note velocity c) ≡ f c
  unfolding start_playing_of
  start_holds p position note velocity c =
      let v = fresh_of p position note velocity (moment_of c.head) in
      either f (eqb c.head.data_len 0) c (handled_of p (pushed_of v c)) (f c) refl (handled_holds p (pushed_of v c) ∙ pushed_holds v c)

  pub stop_holds : (p : Params) (note : Note) (c : Channel) → f (stop_playing_of p note c) ≡ f c
  unfolding stop_playing_of
  stop_holds p note c = finished_holds p c (find_of note c)

  pub speed_holds : (note : Note) (speed : Float) (c : Channel) → f (set_note_speed_of note speed c) ≡ f c
  unfolding set_note_speed_of
  speed_holds note speed c = voices _ _ c

-- ---- any change
module _ (c : Channel) where
  pub stored : (x : Change) → length c.table ≡ 8
      → stored_by (entry_stored x c.head c.several (get_or c.table (place_of (names_of x)) no_phrase)) c.table ≡ (changed_of x c).table
  unfolding entry_stored names_of changed_of head_changed_in reset_of
  stored (change.Start p position note velocity) eight = kept c.several 0 c.table ∙ sym (start_holds (λ (d : Channel). d.table) (λ h d. refl) (λ vs n d. refl) p position note velocity c)
  stored (change.Stop p note) eight = kept c.several 0 c.table ∙ sym (stop_holds (λ (d : Channel). d.table) (λ h d. refl) (λ vs n d. refl) p note c)
  stored (change.Speed note speed) eight = kept c.several 0 c.table ∙ sym (speed_holds (λ (d : Channel). d.table) (λ h d. refl) (λ vs n d. refl) note speed c)
  stored (change.Head d) eight = head_stored d c.head c.several c.table eight
  stored change.Reset eight = kept false 0 c.table

  pub several_stored : (x : Change) (entry : Phrase) → (entry_stored x c.head c.several entry).several ≡ (changed_of x c).several
  unfolding entry_stored changed_of head_changed_in reset_of
  several_stored (change.Start p position note velocity) entry = sym (start_holds (λ (d : Channel). d.several) (λ h d. refl) (λ vs n d. refl) p position note velocity c)
  several_stored (change.Stop p note) entry = sym (stop_holds (λ (d : Channel). d.several) (λ h d. refl) (λ vs n d. refl) p note c)
  several_stored (change.Speed note speed) entry = sym (speed_holds (λ (d : Channel). d.several) (λ h d. refl) (λ vs n d. refl) note speed c)
  several_stored (change.Head d) entry = head_several d c.head c.several entry
  several_stored change.Reset entry = refl
