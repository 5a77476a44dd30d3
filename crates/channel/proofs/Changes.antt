-- A sound channel stays sound through a change of its head that the rows let through. Assumes nothing.
use mathlib.Core.Path.{◌≡◌, refl, sym, ap, ◌∙◌, subst}
use mathlib.Core.Bool.{Bool, true, false, not, ◌&&◌, ◌||◌, cond}
use mathlib.Core.List.{List}
use Prim.Native.Nat.{ℕ, ◌+◌, ◌-◌, ◌^◌, ◌≤◌, ◌<◌, zero-le}
use native.Mathlib.Nat.{le_refl}
use native.Mathlib.Omega.{arith}
use lib.Dec.{eqb}
use lib.ListN.{length, get_or, length-set, length-replicate}
use borrow.Author.Tests.{eqb-true, eqb-false}
use Rattle.walks.proofs.Tests.{neither, either, and-true}
use Rattle.phrases.specs.declared.Phrase.{Phrase}
use Rattle.phrases.specs.Phrases.{no_phrase, no_phrases, empty_from, is_over_by, good_phrases}
use Rattle.phrases.proofs.Rooms.{ends_inside, inside_ends}
use Rattle.phrases.proofs.Apart.{good_within, good_set_empty}
use Rattle.phrases.proofs.Reaches.{behind_same, next_within}
use Rattle.recorder.specs.declared.Recorded.{Recorded}
use Rattle.recorder.specs.Recording.{stop_of, is_recording_of}
use Rattle.recorder.proofs.Good.{good_length, unrecorded_good, start_good, stop_good}
use Rattle.recorder.proofs.Good as recorder
use Rattle.channel.specs.Heads.{recording_in, with_recorded, begins_at, holds_of, phrase_after, recorder_after, interpolates_after, chosen_after, head_changed_of}
use Rattle.channel.specs.Tables.{table_after, several_after, found_by}
use Rattle.channel.specs.Channels.{others_in, phrases_in, beside_in, behind_in, begins_in, uses_of, head_changed_in}
use Rattle.channel.specs.Soundness.{SoundChannel, SoundHeadChange}
use Rattle.channel.specs.declared.Head.{Head}
use Rattle.channel.specs.declared.Channel.{Channel}
use Rattle.channel.specs.declared.HeadChange.{HeadChange}
use Rattle.channel.specs.declared.HeadChange.TheVariants.{StartRecording, StopRecording, Interpolate, Load, Choose, Delete}
use Rattle.channel.proofs.Heads.{SoundHead, recorder_left, recorded_sound}
use Rattle.channel.proofs.Tables.{all, all_chosen, table_good}
use Rattle.channel.proofs.Parts.{parts, table_changed, phrases_good, phrases_length}
use Rattle.channel.proofs.Anew.{anew, behind_inside, anew_shorter, anew_behind, anew_next, next_later, anew_sound, recording_changed}
use Rattle.channel.proofs.Choices.{choose_same, choose_other, chosen_table, chosen_head, phrases_chosen, deleted_table, delete_chosen, delete_other, phrases_deleted}

module _ (capacity : ℕ) (c : Channel) (s : SoundChannel capacity c) (small : capacity ≤ 2 ^ 22) where
  abbrev h : Head
  h = c.head

  -- a recording in place of this one
  abbrev Fits : Phrase → Type 0
  Fits p = (p.start + p.length ≤ capacity) × (good_phrases capacity (anew capacity c s p) ≡ true)

  behind_fits : (n : ℕ) → behind_in c + n ≤ capacity → Fits (record { start = behind_in c; length = n })
  behind_fits n few =
      let p : Phrase = record { start = behind_in c; length = n } in
      (few, anew_behind capacity c s small p (inside_ends p capacity few) (le_refl (behind_in c)))

  -- ---- where it begins that starts or is read
  starts : Fits (record { start = begins_in c; length = h.data_len })
  unfolding begins_at
  starts = go (eqb h.data_len 0) refl (not (is_recording_of h.recorder))
    where
      own : Fits (recording_in h)
      own = ((parts s).head.inside, anew_shorter capacity c s h.data_len (le_refl h.data_len))

      go : (e : Bool) → eqb h.data_len 0 ≡ e → (b : Bool) → Fits (record { start = cond (e && b) (behind_in c) h.start; length = h.data_len })
      go true e true = behind_fits h.data_len (omega (arith, eqb-true h.data_len 0 e, behind_inside capacity c s))
      go true e false = own
      go false e b = own

  loads : is_recording_of h.recorder ≡ false → (samples : ℕ) → samples ≤ holds_of (beside_in capacity c) capacity h → Fits (record { start = begins_in c; length = samples })
  unfolding begins_at holds_of
  loads idle samples few = rw idle (go (eqb h.data_len 0) refl few)
    where
      go : (e : Bool) → eqb h.data_len 0 ≡ e → samples ≤ cond e (capacity - (beside_in capacity c).behind) ((beside_in capacity c).next - h.start)
          → Fits (record { start = cond (e && true) (behind_in c) h.start; length = samples })
      go true e n = behind_fits samples (omega (arith, behind_same h.start h.start capacity 0 (others_in c), behind_inside capacity c s))
      go false e n =
          let room : h.start + samples ≤ (beside_in capacity c).next = omega (arith, next_later capacity c s) in
          let some : 0 < h.data_len = (let d = eqb-false h.data_len 0 e in omega arith) in
          (omega (arith, next_within h.start capacity (others_in c)), anew_next capacity c s samples some room)

  -- ---- a choice
  chooses : (k : ℕ) → k < 8 → (is_recording_of h.recorder && not (eqb k h.chosen)) ≡ false → SoundChannel capacity (head_changed_in (Choose k) c)
  chooses k l free = go (eqb k h.chosen) refl
    where
      g : SoundHead capacity h
      g = (parts s).head

      other : (k ≡ h.chosen → ⊥) → is_recording_of h.recorder ≡ false → SoundChannel capacity (head_changed_in (Choose k) c)
      other d idle =
          let is = choose_other c g.numbered k d in
          let new : Head = chosen_head c g.numbered k in
          let table : List Phrase = chosen_table c g.numbered k in
          let eight : length table ≡ 8 = length-set (cond c.several c.table no_phrases) h.chosen (recording_in h) ∙ either length c.several c.table no_phrases 8 (parts s).entries (length-replicate 8 no_phrase) in
          let good : good_phrases capacity (all new true table) ≡ true =
          subst (λ (ps : List Phrase). good_phrases capacity ps ≡ true) (sym (phrases_chosen c g.numbered k l) ∙ ap phrases_in is) (phrases_good capacity c s) in
          let ends : is_over_by capacity (recording_in new) ≡ true =
          subst (λ (p : Phrase). is_over_by capacity p ≡ true) (all_chosen new true table eight l) (good_within capacity (all new true table) good k l) in
          let inside : new.start + new.data_len ≤ capacity = ends_inside (recording_in new) capacity ends in
          subst (SoundChannel capacity) (sym is)
          (table_changed capacity c s new
          (record { time = g.time; numbered = l; inside = inside; volume = g.volume; recorder = unrecorded_good h.recorder new.data_len capacity idle (omega (arith, inside)) })
          (le_refl h.now) true table eight (table_good new true table capacity good))

      go : (b : Bool) → eqb k h.chosen ≡ b → SoundChannel capacity (head_changed_in (Choose k) c)
      go true e = subst (SoundChannel capacity) (sym (choose_same c g.numbered k (eqb-true k h.chosen e))) s
      go false e = other (eqb-false k h.chosen e) (and-true (is_recording_of h.recorder) ∙ (rw e at free))

  -- ---- a delete
  deletes : (k : ℕ) → k < 8 → (uses_of k c || (is_recording_of h.recorder && eqb k h.chosen)) ≡ false → SoundChannel capacity (head_changed_in (Delete k) c)
  deletes k l free = go (eqb k h.chosen) refl
    where
      g : SoundHead capacity h
      g = (parts s).head

      good : good_phrases capacity (phrases_in (head_changed_in (Delete k) c)) ≡ true
      good =
          let p : Phrase = get_or (phrases_in c) k no_phrase in
          let inside : p.start + p.length ≤ capacity = ends_inside p capacity (good_within capacity (phrases_in c) (phrases_good capacity c s) k l) in
          subst (λ (ps : List Phrase). good_phrases capacity ps ≡ true) (sym (phrases_deleted c g.numbered k (parts s).entries))
          (good_set_empty capacity (phrases_in c) (phrases_length capacity c s) k (empty_from p.start) (phrases_good capacity c s) (inside_ends (empty_from p.start) capacity (omega arith)) refl)

      -- whatever becomes of the head
      sound : (new : Head) → head_changed_in (Delete k) c ≡ record { voices = c.voices; table = deleted_table c g.numbered k; count = c.count; head = new; several = c.several }
          → SoundHead capacity new → h.now ≤ new.now → SoundChannel capacity (head_changed_in (Delete k) c)
      sound new is fine later =
          subst (SoundChannel capacity) (sym is)
          (table_changed capacity c s new fine later c.several (deleted_table c g.numbered k) (length-set c.table k (empty_from (get_or c.table k no_phrase).start) ∙ (parts s).entries)
          (table_good new c.several (deleted_table c g.numbered k) capacity (subst (λ (ps : List Phrase). good_phrases capacity ps ≡ true) (ap phrases_in is) good)))

      go : (b : Bool) → eqb k h.chosen ≡ b → SoundChannel capacity (head_changed_in (Delete k) c)
      go true e =
          let idle : is_recording_of h.recorder ≡ false = and-true (is_recording_of h.recorder) ∙ (rw e at (neither (uses_of k c) (is_recording_of h.recorder && eqb k h.chosen) free).1) in
          let r : Recorded = record { recorder = h.recorder; data_len = 0 } in
          sound (with_recorded r h) (delete_chosen c g.numbered k (eqb-true k h.chosen e))
          (recorded_sound capacity h g r (unrecorded_good h.recorder 0 (capacity - h.start) idle zero-le)) (le_refl h.now)
      go false e = sound h (delete_other c g.numbered k (eqb-false k h.chosen e)) g (le_refl h.now)

  -- ---- every one
  pub head_change_sound : (d : HeadChange) → SoundHeadChange capacity c d → SoundChannel capacity (head_changed_in d c)
  unfolding head_changed_in head_changed_of table_after several_after found_by phrase_after recorder_after interpolates_after chosen_after SoundHeadChange
  head_change_sound StartRecording ok =
      let g = (parts s).head in
      anew_sound capacity c s (head_changed_in StartRecording c).head
      (record { time = g.time; numbered = g.numbered; inside = starts.0; volume = g.volume; recorder = start_good h.recorder h.data_len capacity g.recorder })
      (le_refl h.now) refl starts.1
  head_change_sound StopRecording ok =
      let g = (parts s).head in
      let r = stop_of h.recorder h.data_len in
      let own = recorder.good_within h.recorder h.data_len capacity g.recorder h.data_len (le_refl h.data_len) in
      recording_changed capacity c s r (stop_good h.recorder h.data_len _ (recorder_left capacity h g))
      (anew_shorter capacity c s r.data_len (good_length r.recorder r.data_len h.data_len (stop_good h.recorder h.data_len h.data_len own)))
  head_change_sound (Interpolate on) ok =
      let g = (parts s).head in
      anew_sound capacity c s (head_changed_in (Interpolate on) c).head
      (record { time = g.time; numbered = g.numbered; inside = g.inside; volume = g.volume; recorder = g.recorder })
      (le_refl h.now) refl (anew_shorter capacity c s h.data_len (le_refl h.data_len))
  head_change_sound (Load samples) ok =
      let g = (parts s).head in
      let p = loads ok.0 samples ok.1 in
      anew_sound capacity c s (head_changed_in (Load samples) c).head
      (record { time = g.time; numbered = g.numbered; inside = p.0; volume = g.volume; recorder = unrecorded_good h.recorder samples capacity ok.0 (omega (arith, p.0)) })
      (le_refl h.now) refl p.1
  head_change_sound (Choose k) ok = chooses k ok.0 ok.1
  head_change_sound (Delete k) ok = deletes k ok.0 ok.1
