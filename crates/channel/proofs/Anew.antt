-- Another recording in the place of a sound channel's, at the same number: a shorter one, one behind the others, and one that ends before the next of them. Assumes nothing.
use mathlib.Core.Path.{◌≡◌, refl, sym, ap, ◌∙◌, subst}
use mathlib.Core.Bool.{true}
use mathlib.Core.List.{List}
use Prim.Native.Nat.{ℕ, ◌+◌, ◌-◌, ◌^◌, ◌≤◌, ◌<◌}
use native.Mathlib.Nat.{le_refl}
use native.Mathlib.Omega.{arith}
use lib.ListN.{length, get_or, set}
use lib.Seq.{set-get_or}
use Rattle.phrases.specs.declared.Phrase.{Phrase}
use Rattle.phrases.specs.Phrases.{no_phrase, is_over_by, apart_of, others_of, good_phrases}
use Rattle.phrases.proofs.Rooms.{inside_ends}
use Rattle.phrases.proofs.Table.{others_length, others_chosen}
use Rattle.phrases.proofs.Apart.{good_within, good_apart, good_set, good_set_empty, good_shorter}
use Rattle.phrases.proofs.Reaches.{behind_within, behind_apart, next_within, next_most, next_apart}
use Rattle.recorder.specs.declared.Recorded.{Recorded}
use Rattle.recorder.specs.Recording.{good_recorded}
use Rattle.channel.specs.Heads.{recording_in, with_recorded}
use Rattle.channel.specs.Channels.{with_head, others_in, phrases_in, beside_in, behind_in}
use Rattle.channel.specs.Soundness.{SoundChannel}
use Rattle.channel.specs.declared.Head.{Head}
use Rattle.channel.specs.declared.Channel.{Channel}
use Rattle.channel.proofs.Heads.{SoundHead, recorded_sound}
use Rattle.channel.proofs.Tables.{table_good, all_chosen, all_other, all_anew}
use Rattle.channel.proofs.Parts.{parts, head_changed, phrases_good, phrases_length}

module _ (capacity : ℕ) (c : Channel) (s : SoundChannel capacity c) where
  abbrev chosen : ℕ
  chosen = c.head.chosen

  -- all phrases with that one at the chosen number
  abbrev pub anew : Phrase → List Phrase
  anew p = set (phrases_in c) chosen p

  -- ---- the others
  pub recording_of_all : get_or (phrases_in c) chosen no_phrase ≡ recording_in c.head
  recording_of_all = all_chosen c.head c.several c.table (parts s).entries (parts s).head.numbered

  pub other_of_all : (k : ℕ) → (k ≡ chosen → ⊥) → get_or (phrases_in c) k no_phrase ≡ get_or (others_in c) k no_phrase
  other_of_all k d = all_other c.head c.several c.table k d

  pub others_eight : length (others_in c) ≡ 8
  others_eight = others_length chosen c.table c.several (parts s).entries

  pub others_good : good_phrases capacity (others_in c) ≡ true
  others_good =
      let whole : anew no_phrase ≡ others_in c =
      all_anew c.head c.several c.table no_phrase
      ∙ ap (λ (p : Phrase). set (others_in c) chosen p) (sym (others_chosen chosen c.table c.several))
      ∙ set-get_or (others_in c) chosen no_phrase in
      subst (λ (l : List Phrase). good_phrases capacity l ≡ true) whole
      (good_set_empty capacity (phrases_in c) (phrases_length capacity c s) chosen no_phrase (phrases_good capacity c s) (inside_ends no_phrase capacity (omega arith)) refl)

  pub other-inside : (k : ℕ) → k < 8 → is_over_by capacity (get_or (others_in c) k no_phrase) ≡ true
  other-inside k l = good_within capacity (others_in c) others_good k l

  pub behind_inside : behind_in c ≤ capacity
  behind_inside = behind_within c.head.start 0 (others_in c) capacity (λ k l. other-inside k (omega (arith, others_eight)))

  pub recording_apart : (k : ℕ) → k < 8 → (k ≡ chosen → ⊥) → apart_of (recording_in c.head) (get_or (phrases_in c) k no_phrase) ≡ true
  recording_apart k l d =
      subst (λ (p : Phrase). apart_of p (get_or (phrases_in c) k no_phrase) ≡ true) recording_of_all
      (good_apart capacity (phrases_in c) (phrases_good capacity c s) chosen k (parts s).head.numbered l (λ e. d (sym e)))

  -- ---- good with another in its place
  pub anew_shorter : (n : ℕ) → n ≤ c.head.data_len → good_phrases capacity (anew (record { start = c.head.start; length = n })) ≡ true
  anew_shorter n few =
      let at = recording_of_all in
      good_shorter capacity (phrases_in c) (phrases_length capacity c s) chosen (record { start = c.head.start; length = n }) (phrases_good capacity c s) (parts s).head.numbered
      (ap (λ (p : Phrase). p.start) (sym at)) (rw at few)

  anew_apart : (p : Phrase) → is_over_by capacity p ≡ true → ((k : ℕ) → k < 8 → (k ≡ chosen → ⊥) → apart_of p (get_or (phrases_in c) k no_phrase) ≡ true) → good_phrases capacity (anew p) ≡ true
  anew_apart p ends apart = good_set capacity (phrases_in c) (phrases_length capacity c s) chosen p (phrases_good capacity c s) ends apart

  module _ (small : capacity ≤ 2 ^ 22) where
    -- one behind the others is apart from each
    pub behind_other : (p : Phrase) → behind_in c ≤ p.start → (k : ℕ) → k < 8 → (k ≡ chosen → ⊥) → apart_of p (get_or (phrases_in c) k no_phrase) ≡ true
    behind_other p low k l d =
        rw (other_of_all k d) (behind_apart c.head.start 0 (others_in c) p k capacity (other-inside k l) (omega arith) low)

    pub anew_behind : (p : Phrase) → is_over_by capacity p ≡ true → behind_in c ≤ p.start → good_phrases capacity (anew p) ≡ true
    anew_behind p ends low = anew_apart p ends (behind_other p low)

  -- and so is one in the recording's place that ends before the next
  pub next_other : (n : ℕ) → 0 < c.head.data_len → c.head.start + n ≤ (beside_in capacity c).next → (k : ℕ) → k < 8 → (k ≡ chosen → ⊥)
      → apart_of (record { start = c.head.start; length = n }) (get_or (phrases_in c) k no_phrase) ≡ true
  next_other n some fits k l d =
      rw (other_of_all k d)
      (next_apart c.head.start capacity (others_in c) k n c.head.data_len some (subst (λ (q : Phrase). apart_of (recording_in c.head) q ≡ true) (other_of_all k d) (recording_apart k l d)) fits)

  pub anew_next : (n : ℕ) → 0 < c.head.data_len → c.head.start + n ≤ (beside_in capacity c).next → good_phrases capacity (anew (record { start = c.head.start; length = n })) ≡ true
  anew_next n some fits =
      let p : Phrase = record { start = c.head.start; length = n } in
      anew_apart p (inside_ends p capacity (omega (arith, fits, next_within c.head.start capacity (others_in c)))) (next_other n some fits)

  -- which begins no earlier than it
  pub next_later : c.head.start ≤ (beside_in capacity c).next
  next_later = next_most c.head.start capacity (others_in c) c.head.start (omega (arith, (parts s).head.inside)) (λ k l some at. at)

  -- ---- a head with such a recording
  pub phrases_anew : (h : Head) → h.chosen ≡ chosen → phrases_in (with_head h c) ≡ anew (recording_in h)
  phrases_anew h same =
      ap (λ (k : ℕ). set (others_of c.several k c.table) k (recording_in h)) same
      ∙ sym (all_anew c.head c.several c.table (recording_in h))

  pub anew_sound : (h : Head) → SoundHead capacity h → c.head.now ≤ h.now → h.chosen ≡ chosen → good_phrases capacity (anew (recording_in h)) ≡ true → SoundChannel capacity (with_head h c)
  anew_sound h sound later same good =
      head_changed capacity c s h sound later
      (table_good h c.several c.table capacity (subst (λ (l : List Phrase). good_phrases capacity l ≡ true) (sym (phrases_anew h same)) good))

  pub recording_changed : (r : Recorded) → good_recorded r (capacity - c.head.start) ≡ true
      → good_phrases capacity (anew (record { start = c.head.start; length = r.data_len })) ≡ true → SoundChannel capacity (with_head (with_recorded r c.head) c)
  recording_changed r good apart = anew_sound (with_recorded r c.head) (recorded_sound capacity c.head (parts s).head r good) (le_refl c.head.now) refl apart
