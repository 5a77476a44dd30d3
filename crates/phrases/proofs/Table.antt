-- What stands at a number of a table of phrases: of no phrases, and of those beside the chosen one. What a store leaves is told by `lib.Seq`'s
-- `get_or-set_same` and `get_or-set_other`. Assumes nothing.
use Rattle.std.proofs.Common.{◌≡◌, ℕ, zero, suc, ◌<◌, Bool, true, false, cond, eqb, List, [], ◌∷◌, length, get_or, set, replicate, sym, refl, ap, ◌∙◌, subst, length-set, get_or-set_other, get_or-set_same, eqb-true}
use lib.ListN.{length-replicate}
use borrow.Author.Tests.{eqb-false}
use Rattle.phrases.specs.Phrases.{no_phrase, no_phrases, others_of}
use Rattle.phrases.specs.declared.Phrase.{Phrase}

-- what stands past the end, stored within, or nothing else, is all that a list gives
filled : {A : Type 0} (n k : ℕ) (d : A) → get_or (replicate n d) k d ≡ d
filled zero k d = refl
filled (suc n) zero d = refl
filled (suc n) (suc k) d = filled n k d

emptied : {A : Type 0} (l : List A) (k : ℕ) (d : A) → get_or (set l k d) k d ≡ d
emptied [] k d = refl
emptied (x ∷ xs) zero d = refl
emptied (x ∷ xs) (suc k) d = emptied xs k d

-- what holds of the one stored, and of the others, holds of each
pub set_entry : (P : Phrase → Type 0) (table : List Phrase) (k i : ℕ) (p : Phrase) → i < length table → (i ≡ k → P p) → ((i ≡ k → ⊥) → P (get_or table i no_phrase))
    → P (get_or (set table k p) i no_phrase)
set_entry P table k i p l same other = go (eqb i k) refl
  where
    go : (b : Bool) → eqb i k ≡ b → P (get_or (set table k p) i no_phrase)
    go true e =
        let at : i ≡ k = eqb-true i k e in
        subst P (sym (ap (λ (j : ℕ). get_or (set table j p) i no_phrase) (sym at) ∙ get_or-set_same table i p no_phrase l)) (same at)
    go false e =
        let off : i ≡ k → ⊥ = eqb-false i k e in
        subst P (sym (get_or-set_other table k i p no_phrase off)) (other off)

pub none_at : (k : ℕ) → get_or no_phrases k no_phrase ≡ no_phrase
none_at k = filled 8 k no_phrase

module _ (chosen : ℕ) (table : List Phrase) where
  pub others_length : (several : Bool) → length table ≡ 8 → length (others_of several chosen table) ≡ 8
  unfolding others_of
  others_length true h = length-set table chosen no_phrase ∙ h
  others_length false h = length-replicate 8 no_phrase

  -- the chosen one's entry isn't looked at
  pub others_chosen : (several : Bool) → get_or (others_of several chosen table) chosen no_phrase ≡ no_phrase
  unfolding others_of
  others_chosen true = emptied table chosen no_phrase
  others_chosen false = none_at chosen

  pub others_at : (several : Bool) (k : ℕ) → (k ≡ chosen → ⊥)
      → get_or (others_of several chosen table) k no_phrase ≡ cond several (get_or table k no_phrase) no_phrase
  unfolding others_of
  others_at true k h = get_or-set_other table chosen k no_phrase no_phrase h
  others_at false k h = none_at k
