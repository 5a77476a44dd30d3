-- Phrases that have no sample in common, and tables of such: what `apart_of` and `good_phrases` tell, and what makes them hold. Assumes nothing.
use Rattle.std.proofs.Common.{◌≡◌, ℕ, ◌+◌, ◌<◌, ◌≤◌, Bool, true, false, ◌||◌, eqb, leb, ◌⊎◌, List, length, get_or, set, sym, refl, ◌∙◌, inl, inr, ⊎_elim, true≢false, eq-zero-or-pos, arith, get_or-set_other, eq-eqb, eqb-true, le-leb, leb-true}
use Rattle.walks.proofs.Lists.Every.{both}
use Rattle.walks.proofs.Tests.{joined}
use Rattle.phrases.specs.Phrases.{no_phrase, no_phrases, no_samples, is_over_by, apart_of, others_of, every_below, good_at, good_phrases}
use Rattle.phrases.specs.declared.Phrase.{Phrase}
use Rattle.phrases.proofs.Below.{before_or, below_at, below_all}
use Rattle.phrases.proofs.Rooms.{ends_inside, inside_ends}
use Rattle.phrases.proofs.Table.{set_entry, none_at}

-- ---- two phrases
module _ (p q : Phrase) where
  pub apart_sym : apart_of p q ≡ apart_of q p
  unfolding apart_of
  apart_sym = go (no_samples p) (no_samples q) (is_over_by q.start p) (is_over_by p.start q)
    where
      go : (a b c d : Bool) → ((a || b) || (c || d)) ≡ ((b || a) || (d || c))
      go true true c d = refl
      go true false c d = refl
      go false true c d = refl
      go false false true true = refl
      go false false true false = refl
      go false false false true = refl
      go false false false false = refl

  -- one of them is empty, or one ends before the other begins
  pub apart_cases : {R : Type 0} → apart_of p q ≡ true → (p.length ≡ 0 → R) → (q.length ≡ 0 → R)
      → (p.start + p.length ≤ q.start → R) → (q.start + q.length ≤ p.start → R) → R
  unfolding apart_of no_samples is_over_by
  apart_cases {R} h = go (eqb p.length 0) (eqb q.length 0) (leb (p.start + p.length) q.start) (leb (q.start + q.length) p.start) refl refl refl refl h
    where
      go : (a b c d : Bool) → eqb p.length 0 ≡ a → eqb q.length 0 ≡ b → leb (p.start + p.length) q.start ≡ c
          → leb (q.start + q.length) p.start ≡ d → ((a || b) || (c || d)) ≡ true → (p.length ≡ 0 → R) → (q.length ≡ 0 → R)
          → (p.start + p.length ≤ q.start → R) → (q.start + q.length ≤ p.start → R) → R
      go true b c d ea eb ec ed t f g k l = f (eqb-true p.length 0 ea)
      go false true c d ea eb ec ed t f g k l = g (eqb-true q.length 0 eb)
      go false false true d ea eb ec ed t f g k l = k (leb-true (p.start + p.length) q.start ec)
      go false false false true ea eb ec ed t f g k l = l (leb-true (q.start + q.length) p.start ed)
      go false false false false ea eb ec ed t f g k l = absurd (true≢false (sym t))

  pub apart_empty : p.length ≡ 0 → apart_of p q ≡ true
  unfolding apart_of no_samples
  apart_empty h = simp (eq-eqb p.length 0 h)

  pub apart_before : p.start + p.length ≤ q.start → apart_of p q ≡ true
  unfolding apart_of is_over_by
  apart_before h = go (no_samples p || no_samples q) (is_over_by p.start q) (le-leb (p.start + p.length) q.start h)
    where
      go : (a b : Bool) {c : Bool} → c ≡ true → (a || (c || b)) ≡ true
      go true b e = refl
      go false b e = simp e

module _ (p q : Phrase) where
  pub apart_from_empty : q.length ≡ 0 → apart_of p q ≡ true
  apart_from_empty h = apart_sym p q ∙ apart_empty q p h

  pub apart_behind : q.start + q.length ≤ p.start → apart_of p q ≡ true
  apart_behind h = apart_sym p q ∙ apart_before q p h

  -- of two that have samples one ends before the other begins
  pub apart_some : apart_of p q ≡ true → 0 < p.length → 0 < q.length → (p.start + p.length ≤ q.start) ⊎ (q.start + q.length ≤ p.start)
  apart_some h a b = apart_cases p q h (λ e. absurd (omega arith)) (λ e. absurd (omega arith)) inl inr

  pub apart_made : (0 < p.length → 0 < q.length → (p.start + p.length ≤ q.start) ⊎ (q.start + q.length ≤ p.start)) → apart_of p q ≡ true
  apart_made h = go (eq-zero-or-pos p.length) (eq-zero-or-pos q.length)
    where
      go : (p.length ≡ 0) ⊎ (0 < p.length) → (q.length ≡ 0) ⊎ (0 < q.length) → apart_of p q ≡ true
      go (inl e) b = apart_empty p q e
      go (inr a) (inl e) = apart_from_empty e
      go (inr a) (inr b) = ⊎_elim (apart_before p q) apart_behind (h a b)

  -- a shorter one is apart from what the longer was
  pub apart_shorter : (r : Phrase) → q.start ≡ p.start → q.length ≤ p.length → apart_of p r ≡ true → apart_of q r ≡ true
  apart_shorter r s l h =
      apart_cases p r h
      (λ e. apart_empty q r (omega arith))
      (λ e. apart_sym q r ∙ apart_empty r q e)
      (λ k. apart_before q r (omega arith))
      (λ k. apart_sym q r ∙ apart_before r q (omega arith))

-- ---- the eight of a channel
module _ (capacity : ℕ) (ps : List Phrase) where
  module _ (good : good_phrases capacity ps ≡ true) where
    good_here : (k : ℕ) → k < 8 → (is_over_by capacity (get_or ps k no_phrase) ≡ true) × (every_below k (λ (j : ℕ). apart_of (get_or ps k no_phrase) (get_or ps j no_phrase)) ≡ true)
    unfolding good_phrases good_at
    good_here k l =
        both (is_over_by capacity (get_or ps k no_phrase)) (every_below k (λ (j : ℕ). apart_of (get_or ps k no_phrase) (get_or ps j no_phrase)))
        (below_at (good_at capacity ps) 8 k good l)

    pub good_within : (k : ℕ) → k < 8 → is_over_by capacity (get_or ps k no_phrase) ≡ true
    good_within k l = (good_here k l).0

    good_below : (k j : ℕ) → k < 8 → j < k → apart_of (get_or ps k no_phrase) (get_or ps j no_phrase) ≡ true
    good_below k j l m = below_at (λ (i : ℕ). apart_of (get_or ps k no_phrase) (get_or ps i no_phrase)) k j (good_here k l).1 m

    pub good_apart : (j k : ℕ) → j < 8 → k < 8 → (j ≡ k → ⊥) → apart_of (get_or ps j no_phrase) (get_or ps k no_phrase) ≡ true
    good_apart j k l m d =
        ⊎_elim
        (λ h. apart_sym (get_or ps j no_phrase) (get_or ps k no_phrase) ∙ good_below k j m h)
        (λ h. good_below j k l (omega arith))
        (before_or j k)

    pub good_some : (j k : ℕ) → j < 8 → k < 8 → (j ≡ k → ⊥) → 0 < (get_or ps j no_phrase).length → 0 < (get_or ps k no_phrase).length
        → ((get_or ps j no_phrase).start + (get_or ps j no_phrase).length ≤ (get_or ps k no_phrase).start)
        ⊎ ((get_or ps k no_phrase).start + (get_or ps k no_phrase).length ≤ (get_or ps j no_phrase).start)
    good_some j k l m d = apart_some (get_or ps j no_phrase) (get_or ps k no_phrase) (good_apart j k l m d)

  pub good_made : ((k : ℕ) → k < 8 → is_over_by capacity (get_or ps k no_phrase) ≡ true)
      → ((j k : ℕ) → j < k → k < 8 → apart_of (get_or ps k no_phrase) (get_or ps j no_phrase) ≡ true) → good_phrases capacity ps ≡ true
  unfolding good_phrases good_at
  good_made within apart =
      below_all (good_at capacity ps) 8
      (λ (k : ℕ) (l : k < 8). joined (is_over_by capacity (get_or ps k no_phrase)) (every_below k (λ (j : ℕ). apart_of (get_or ps k no_phrase) (get_or ps j no_phrase)))
      (within k l) (below_all (λ (j : ℕ). apart_of (get_or ps k no_phrase) (get_or ps j no_phrase)) k (λ (j : ℕ) (m : j < k). apart j k m l)))

-- a larger capacity
pub good_larger : (capacity more : ℕ) (ps : List Phrase) → capacity ≤ more → good_phrases capacity ps ≡ true → good_phrases more ps ≡ true
good_larger capacity more ps h good =
    good_made more ps
    (λ k l. inside_ends (get_or ps k no_phrase) more (omega (arith, ends_inside (get_or ps k no_phrase) capacity (good_within capacity ps good k l))))
    (λ j k m l. good_apart capacity ps good k j l (omega arith) (omega arith))

pub good_none : (capacity : ℕ) → good_phrases capacity no_phrases ≡ true
good_none capacity =
    good_made capacity no_phrases
    (λ k l. rw (none_at k) (inside_ends no_phrase capacity (omega arith)))
    (λ j k m l. rw (none_at k) (apart_empty no_phrase (get_or no_phrases j no_phrase) refl))

-- ---- one entry anew
module _ (capacity : ℕ) (ps : List Phrase) (eight : length ps ≡ 8) (k : ℕ) (q : Phrase) (good : good_phrases capacity ps ≡ true) where
  -- one that lies within the capacity and is apart from the others
  pub good_set : is_over_by capacity q ≡ true → ((j : ℕ) → j < 8 → (j ≡ k → ⊥) → apart_of q (get_or ps j no_phrase) ≡ true) → good_phrases capacity (set ps k q) ≡ true
  good_set ends apart =
      good_made capacity (set ps k q)
      (λ i l. set_entry (λ (r : Phrase). is_over_by capacity r ≡ true) ps k i q (omega arith) (λ e. ends) (λ d. good_within capacity ps good i l))
      (λ j i m l. set_entry (λ (r : Phrase). apart_of r (get_or (set ps k q) j no_phrase) ≡ true) ps k i q (omega arith)
      (λ e. let d : j ≡ k → ⊥ = λ f. omega arith in rw (get_or-set_other ps k j q no_phrase d) (apart j (omega arith) d))
      (λ d. set_entry (λ (r : Phrase). apart_of (get_or ps i no_phrase) r ≡ true) ps k j q (omega arith)
      (λ e. apart_sym (get_or ps i no_phrase) q ∙ apart i l d)
      (λ f. good_apart capacity ps good i j l (omega arith) (omega arith))))

  pub good_set_empty : is_over_by capacity q ≡ true → q.length ≡ 0 → good_phrases capacity (set ps k q) ≡ true
  good_set_empty ends none = good_set ends (λ j l d. apart_empty q (get_or ps j no_phrase) none)

  -- the old one, shortened
  pub good_shorter : k < 8 → q.start ≡ (get_or ps k no_phrase).start → q.length ≤ (get_or ps k no_phrase).length → good_phrases capacity (set ps k q) ≡ true
  good_shorter l s n =
      let p : Phrase = get_or ps k no_phrase in
      let h : p.start + p.length ≤ capacity = ends_inside p capacity (good_within capacity ps good k l) in
      good_set (inside_ends q capacity (omega arith))
      (λ j m d. apart_shorter p q (get_or ps j no_phrase) s n (good_apart capacity ps good k j l m (λ e. d (sym e))))

-- the chosen one's entry isn't looked at
pub good_others : (capacity : ℕ) (several : Bool) (chosen : ℕ) (table : List Phrase) → length table ≡ 8 → good_phrases capacity table ≡ true
    → good_phrases capacity (others_of several chosen table) ≡ true
unfolding others_of
good_others capacity true chosen table eight good = good_set_empty capacity table eight chosen no_phrase good (inside_ends no_phrase capacity (omega arith)) refl
good_others capacity false chosen table eight good = good_none capacity
