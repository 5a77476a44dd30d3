-- A channel's table and all its phrases: what row 9 says of the one it says of the other, and what stands at a number. Assumes nothing.
use mathlib.Core.Path.{◌≡◌, refl, sym, ap, ◌∙◌}
use mathlib.Core.Bool.{Bool, true, false, ◌&&◌, cond}
use mathlib.Core.List.{List}
use Prim.Native.Nat.{ℕ, ◌≤◌, ◌<◌}
use native.Mathlib.Nat.{min-eq_left}
use native.Mathlib.Omega.{arith}
use lib.Dec.{eqb, ltb}
use lib.ListN.{length, get_or, set, length-set, length-replicate}
use lib.Seq.{get_or-set_same, get_or-set_other, set-set}
use borrow.Author.Tests.{lt-ltb, le-ltb, ne_eqb, eqb-true, eqb-false}
use Rattle.phrases.specs.declared.Phrase.{Phrase}
use Rattle.phrases.specs.Phrases.{no_phrase, no_phrases, is_over_by, others_of, good_phrases}
use Rattle.phrases.proofs.Table.{none_at, others_length, others_at}
use Rattle.phrases.proofs.Apart.{apart_from_empty, good_none, good_set}
use Rattle.channel.specs.Heads.{recording_in, phrase_by}
use Rattle.channel.specs.Tables.{place_of, with_recording, good_table}
use Rattle.channel.specs.declared.Head.{Head}

-- a number's place in the table
pub place_below : (k : ℕ) → k < 8 → place_of k ≡ k
place_below k l = min-eq_left (omega arith)

module _ (h : Head) (several : Bool) (table : List Phrase) where
  -- the phrases beside the recording, and all of them
  abbrev pub beside : List Phrase
  beside = others_of several h.chosen table

  abbrev pub all : List Phrase
  all = with_recording h beside

  -- ---- good
  module _ (capacity : ℕ) where
    pub all_good : is_over_by capacity (recording_in h) ≡ true → good_table capacity h several table ≡ true → good_phrases capacity all ≡ true
    unfolding good_table others_of
    all_good ends = go several
      where
        go : (b : Bool) → good_table capacity h b table ≡ true → good_phrases capacity (with_recording h (others_of b h.chosen table)) ≡ true
        go true good = rw (set-set table h.chosen no_phrase (recording_in h)) good
        go false good =
            good_set capacity no_phrases (length-replicate 8 no_phrase) h.chosen (recording_in h) (good_none capacity) ends
            (λ j l d. rw (none_at j) (apart_from_empty (recording_in h) no_phrase refl))

    pub table_good : good_phrases capacity all ≡ true → good_table capacity h several table ≡ true
    unfolding good_table others_of
    table_good = go several
      where
        go : (b : Bool) → good_phrases capacity (with_recording h (others_of b h.chosen table)) ≡ true → good_table capacity h b table ≡ true
        go true good = rw (set-set table h.chosen no_phrase (recording_in h)) at good
        go false good = refl

  -- ---- at a number: past the last there is none
  pub phrase_past : (k : ℕ) (entry : Phrase) → 8 ≤ k → h.chosen < 8 → phrase_by h k several entry ≡ no_phrase
  unfolding phrase_by
  phrase_past k entry over l = rw (ne_eqb k h.chosen (omega arith), le-ltb k 8 over) (go several)
    where
      go : (b : Bool) → cond (b && false) entry no_phrase ≡ no_phrase
      go true = refl
      go false = refl

  pub all_other : (k : ℕ) → (k ≡ h.chosen → ⊥) → get_or all k no_phrase ≡ get_or beside k no_phrase
  all_other k d = get_or-set_other beside h.chosen k (recording_in h) no_phrase d

  -- another recording at the same number
  pub all_anew : (p : Phrase) → set all h.chosen p ≡ set beside h.chosen p
  all_anew p = set-set beside h.chosen (recording_in h) p

  module _ (eight : length table ≡ 8) where
    pub all_length : length all ≡ 8
    all_length = length-set beside h.chosen (recording_in h) ∙ others_length h.chosen table several eight

    pub all_chosen : h.chosen < 8 → get_or all h.chosen no_phrase ≡ recording_in h
    all_chosen l =
        let long : h.chosen < length beside = omega (arith, others_length h.chosen table several eight) in
        get_or-set_same beside h.chosen (recording_in h) no_phrase long

    -- the phrase of a number is the one of all
    pub phrase_all : (k : ℕ) → k < 8 → phrase_by h k several (get_or table (place_of k) no_phrase) ≡ get_or all k no_phrase
    unfolding phrase_by
    phrase_all k l = go (eqb k h.chosen) refl
      where
        inner : (b : Bool) → cond (b && ltb k 8) (get_or table (place_of k) no_phrase) no_phrase ≡ cond b (get_or table k no_phrase) no_phrase
        inner true = rw (lt-ltb k 8 l, place_below k l)
        inner false = refl

        go : (b : Bool) → eqb k h.chosen ≡ b → cond b (recording_in h) (cond (several && ltb k 8) (get_or table (place_of k) no_phrase) no_phrase) ≡ get_or all k no_phrase
        go true e =
            let at : k ≡ h.chosen = eqb-true k h.chosen e in
            sym (ap (λ (j : ℕ). get_or all j no_phrase) at ∙ all_chosen (omega arith))
        go false e =
            let off : k ≡ h.chosen → ⊥ = eqb-false k h.chosen e in
            inner several ∙ sym (all_other k off ∙ others_at h.chosen table several k off)
