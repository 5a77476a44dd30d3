-- A channel's phrases stay out of each other's way (request 11/12): a sample, a change of the head and a read touch no phrase but the one they are about. Assumes nothing.
use mathlib.Core.Path.{◌≡◌, refl, sym, ap, ◌∙◌, subst}
use mathlib.Core.Bool.{Bool, true, false, cond}
use mathlib.Core.List.{List, [], ◌∷◌, ◌++◌, append_assoc}
use Prim.Native.Nat.{ℕ, ◌+◌, ◌-◌, ◌^◌, ◌≤◌, ◌<◌}
use native.Mathlib.Nat.{add-zero}
use native.Mathlib.Omega.{arith}
use lib.ListN.{length, take, drop, get_or, length-set, length-replicate, length-append, take-append-drop}
use lib.Seq.{get_or-set_same, get_or-set_other, length-take-le, drop_at}
use lib.Ieee.{Float}
use borrow.Author.Tests.{ne_eqb}
use Rattle.binary32.specs.Leaves.{bits_of}
use Rattle.phrases.specs.declared.Phrase.{Phrase}
use Rattle.phrases.specs.Phrases.{no_phrase, no_phrases, empty_from, stored_in, apart_of}
use Rattle.phrases.proofs.Apart.{apart_cases}
use Rattle.phrases.proofs.Gathered.Moved.{front_part, drop_further}
use Rattle.recorder.specs.Recording.{data_after, is_recording_of}
use Rattle.recorder.proofs.Memory.{memory_length}
use Rattle.walks.proofs.Tests.{either}
use Rattle.channel.specs.Heads.{recording_in, phrase_by, written_in, holds_of, phrase_after, chosen_after, head_changed_of}
use Rattle.channel.specs.Tables.{place_of, with_recording, stays_chosen, table_after, several_after, found_by}
use Rattle.channel.specs.Channels.{phrases_in, phrase_at, beside_in, behind_in, begins_in, head_changed_in, taken_of, memory_of}
use Rattle.channel.specs.Soundness.{SoundChannel, SoundHeadChange}
use Rattle.channel.specs.declared.Head.{Head}
use Rattle.channel.specs.declared.Channel.{Channel}
use Rattle.channel.specs.declared.HeadChange.{HeadChange}
use Rattle.channel.specs.declared.HeadChange.TheVariants.{StartRecording, StopRecording, Interpolate, Load, Choose, Delete}
use Rattle.channel.proofs.Heads.{written_from, handed_cases}
use Rattle.channel.proofs.Rooms.{written_inside, part_length}
use Rattle.channel.proofs.Tables.{phrase_all}
use Rattle.channel.proofs.Parts.{parts, phrases_length, phrase_of_all}
use Rattle.channel.proofs.Anew.{recording_apart, behind_other}
use Rattle.channel.proofs.Choices.{phrases_chosen, phrases_deleted}
use Rattle.channel.proofs.Changes.{head_change_sound}

load_deletes : (n k : ℕ) → Load n ≡ Delete k → ⊥
load_deletes n k e = let z : ◌≡◌ {A = ℕ} 0 1 = cc in omega arith

-- ---- words written in one stretch leave a phrase's samples that has none there
module _ (m words : List ℕ) (w q : Phrase) (inside : w.start + w.length ≤ length m) (many : length words ≡ w.length) where
  abbrev pub written_at : List ℕ
  written_at = take w.start m ++ (words ++ drop (w.start + w.length) m)

  pub stored_beside : apart_of w q ≡ true → stored_in q written_at ≡ stored_in q m
  unfolding stored_in
  stored_beside apart =
      apart_cases w q apart
      (λ none. ap (λ (l : List ℕ). stored_in q l) (whole words w.length many none))
      (λ none. rw none)
      (λ before. ap (take q.length) (drop_further written_at m end q.start behind before))
      (λ after. front_part (take w.start m) (words ++ drop end m) q.start q.length (omega (arith, front))
      ∙ sym (front_part (take w.start m) (drop w.start m) q.start q.length (omega (arith, front)))
      ∙ ap (λ (l : List ℕ). take q.length (drop q.start l)) (take-append-drop w.start m))
    where
      end : ℕ
      end = w.start + w.length

      front : length (take w.start m) ≡ w.start
      front = length-take-le w.start m (omega arith)

      behind : drop end written_at ≡ drop end m
      behind =
          ap (drop end) (sym (append_assoc (take w.start m) words (drop end m)))
          ∙ drop_at (take w.start m ++ words) (drop end m) end (length-append (take w.start m) words ∙ (λ i. front i + many i))

      whole : (ks : List ℕ) (n : ℕ) → length ks ≡ n → n ≡ 0 → take w.start m ++ (ks ++ drop (w.start + n) m) ≡ m
      whole [] n a b = rw (b, add-zero w.start) (take-append-drop w.start m)
      whole (x ∷ ks) n a b = absurd (omega arith)

module _ (capacity : ℕ) (c : Channel) (s : SoundChannel capacity c) where
  -- ---- a head's phrases but the chosen one's are the table's
  phrase_beside : (h : Head) → h.chosen ≡ c.head.chosen → (k : ℕ) → (k ≡ c.head.chosen → ⊥) → (several : Bool) (entry : Phrase) → phrase_by h k several entry ≡ phrase_by c.head k several entry
  unfolding phrase_by
  phrase_beside h same k d several entry = rw (same, ne_eqb k c.head.chosen d)

  table_eight : (d : HeadChange) → length (head_changed_in d c).table ≡ 8
  unfolding head_changed_in table_after
  table_eight StartRecording = (parts s).entries
  table_eight StopRecording = (parts s).entries
  table_eight (Interpolate on) = (parts s).entries
  table_eight (Load samples) = (parts s).entries
  table_eight (Choose j) =
      let old = (parts s).entries in
      either length (stays_chosen j c.head) c.table (with_recording c.head (cond c.several c.table no_phrases)) 8 old
      (length-set (cond c.several c.table no_phrases) c.head.chosen (recording_in c.head) ∙ either length c.several c.table no_phrases 8 old (length-replicate 8 no_phrase))
  table_eight (Delete j) = length-set c.table j (empty_from (get_or c.table j no_phrase).start) ∙ (parts s).entries

  phrase_after_lem : (d : HeadChange) (k : ℕ) → k < 8 → phrase_at (head_changed_in d c) k ≡ get_or (phrases_in (head_changed_in d c)) k no_phrase
  phrase_after_lem d k l = let e = head_changed_in d c in phrase_all e.head e.several e.table (table_eight d) k l

  -- ---- a choice moves no phrase, a delete empties the one that it names
  pub choose_leaves : (j : ℕ) → j < 8 → (k : ℕ) → k < 8 → phrase_at (head_changed_in (Choose j) c) k ≡ phrase_at c k
  choose_leaves j below k l =
      phrase_after_lem (Choose j) k l
      ∙ ap (λ (ps : List Phrase). get_or ps k no_phrase) (phrases_chosen c (parts s).head.numbered j below)
      ∙ sym (phrase_of_all capacity c s k l)

  pub delete_leaves : (j k : ℕ) → k < 8 → (k ≡ j → ⊥) → phrase_at (head_changed_in (Delete j) c) k ≡ phrase_at c k
  delete_leaves j k l d =
      phrase_after_lem (Delete j) k l
      ∙ ap (λ (ps : List Phrase). get_or ps k no_phrase) (phrases_deleted c (parts s).head.numbered j (parts s).entries)
      ∙ get_or-set_other (phrases_in c) j k (empty_from (get_or (phrases_in c) j no_phrase).start) no_phrase d
      ∙ sym (phrase_of_all capacity c s k l)

  pub delete_empties : (j : ℕ) → j < 8 → phrase_at (head_changed_in (Delete j) c) j ≡ empty_from (phrase_at c j).start
  delete_empties j l =
      phrase_after_lem (Delete j) j l
      ∙ ap (λ (ps : List Phrase). get_or ps j no_phrase) (phrases_deleted c (parts s).head.numbered j (parts s).entries)
      ∙ get_or-set_same (phrases_in c) j (empty_from (get_or (phrases_in c) j no_phrase).start) no_phrase (omega (arith, phrases_length capacity c s))
      ∙ ap (λ (p : Phrase). empty_from p.start) (sym (phrase_of_all capacity c s j l))

  -- a change that the rows let through leaves every phrase that is neither chosen nor deleted
  pub change_leaves : (d : HeadChange) → SoundHeadChange capacity c d → (k : ℕ) → k < 8 → (k ≡ c.head.chosen → ⊥) → (d ≡ Delete k → ⊥) → phrase_at (head_changed_in d c) k ≡ phrase_at c k
  unfolding head_changed_in head_changed_of table_after several_after chosen_after SoundHeadChange
  change_leaves StartRecording ok k l d other = phrase_beside (head_changed_in StartRecording c).head refl k d c.several (get_or c.table (place_of k) no_phrase)
  change_leaves StopRecording ok k l d other = phrase_beside (head_changed_in StopRecording c).head refl k d c.several (get_or c.table (place_of k) no_phrase)
  change_leaves (Interpolate on) ok k l d other = phrase_beside (head_changed_in (Interpolate on) c).head refl k d c.several (get_or c.table (place_of k) no_phrase)
  change_leaves (Load samples) ok k l d other = phrase_beside (head_changed_in (Load samples) c).head refl k d c.several (get_or c.table (place_of k) no_phrase)
  change_leaves (Choose j) ok k l d other = choose_leaves j ok.0 k l
  change_leaves (Delete j) ok k l d other = delete_leaves j k l (λ e. other (ap Delete (sym e)))

  -- ---- a sample is recorded into the chosen phrase
  pub taken_leaves : (m : List ℕ) (k : ℕ) → (k ≡ c.head.chosen → ⊥) → phrase_at (taken_of m c) k ≡ phrase_at c k
  unfolding taken_of
  taken_leaves m k d = phrase_beside (taken_of m c).head refl k d c.several (get_or c.table (place_of k) no_phrase)

  module _ (small : capacity ≤ 2 ^ 22) where
    -- what the recorder is handed has no sample of another
    abbrev pub handed_in : ℕ → Phrase
    handed_in size =
        let r = written_in (behind_in c) c.head size in
        record { start = r.from; length = r.to - r.from }

    pub written_apart : (k : ℕ) → k < 8 → (k ≡ c.head.chosen → ⊥) → apart_of (handed_in capacity) (phrase_at c k) ≡ true
    written_apart k l d =
        let g = (parts s).head in
        let q : Phrase = get_or (phrases_in c) k no_phrase in
        let own : ℕ → Phrase = λ n. record { start = c.head.start; length = n } in
        let n : ℕ = (handed_in capacity).length in
        rw (phrase_of_all capacity c s k l)
        (subst (λ (f : ℕ). apart_of (record { start = f; length = (handed_in capacity).length }) (get_or (phrases_in c) k no_phrase) ≡ true) (sym (written_from capacity c.head g (behind_in c)))
        (handed_cases capacity c.head g (behind_in c)
        (λ low e. behind_other capacity c s small (own n) low k l d)
        (λ high e. subst (λ (z : ℕ). apart_of (own z) q ≡ true) (sym e) (recording_apart capacity c s k l d))))

    pub memory_leaves : (x : Float) (m : List ℕ) → length m ≡ capacity → (k : ℕ) → k < 8 → (k ≡ c.head.chosen → ⊥) → stored_in (phrase_at c k) (memory_of x c m) ≡ stored_in (phrase_at c k) m
    unfolding memory_of
    memory_leaves x m size k l d =
        let r = written_in (behind_in c) c.head (length m) in
        let part = take (r.to - r.from) (drop r.from m) in
        let words = data_after c.head.recorder (bits_of x) part in
        let inside = written_inside (behind_in c) c.head (length m) in
        let apart = subst (λ (n : ℕ). apart_of (handed_in n) (phrase_at c k) ≡ true) (sym size) (written_apart k l d) in
        let whole : r.from + (r.to - r.from) ≡ r.to = omega (arith, inside.0) in
        subst (λ (n : ℕ). stored_in (phrase_at c k) (take r.from m ++ (words ++ drop n m)) ≡ stored_in (phrase_at c k) m) whole
        (stored_beside m words (handed_in (length m)) (phrase_at c k) (omega (arith, inside.0, inside.1))
        (memory_length c.head.recorder (bits_of x) part ∙ part_length (behind_in c) c.head m) apart)

    -- ---- a read
    module _ (n : ℕ) (idle : is_recording_of c.head.recorder ≡ false) (few : n ≤ holds_of (beside_in capacity c) capacity c.head) where
      read : SoundChannel capacity (head_changed_in (Load n) c)
      unfolding SoundHeadChange
      read = head_change_sound capacity c s small (Load n) (idle, few)

      -- it lies within the capacity, and has no sample of another phrase
      pub read_inside : begins_in c + n ≤ capacity
      unfolding head_changed_in head_changed_of phrase_after found_by
      read_inside = (parts read).head.inside

      pub read_apart : (k : ℕ) → k < 8 → (k ≡ c.head.chosen → ⊥) → apart_of (record { start = begins_in c; length = n }) (phrase_at c k) ≡ true
      unfolding head_changed_in head_changed_of phrase_after found_by chosen_after SoundHeadChange
      read_apart k l d =
          subst (λ (q : Phrase). apart_of (record { start = begins_in c; length = n }) q ≡ true)
          (sym (phrase_of_all capacity (head_changed_in (Load n) c) read k l) ∙ change_leaves (Load n) (idle, few) k l d (load_deletes n k))
          (recording_apart capacity (head_changed_in (Load n) c) read k l d)

      pub read_leaves : (m words : List ℕ) → length m ≡ capacity → length words ≡ n → (k : ℕ) → k < 8 → (k ≡ c.head.chosen → ⊥)
          → stored_in (phrase_at c k) (take (begins_in c) m ++ (words ++ drop (begins_in c + n) m)) ≡ stored_in (phrase_at c k) m
      read_leaves m words size many k l d = stored_beside m words (record { start = begins_in c; length = n }) (phrase_at c k) (omega (arith, size, read_inside)) many (read_apart k l d)
