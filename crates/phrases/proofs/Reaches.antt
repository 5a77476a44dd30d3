-- What `beside_of` tells: how far phrases reach, and where the first begins that begins at a place or behind it. Over any list. Assumes nothing.
use Rattle.std.proofs.Common.{◌≡◌, ℕ, zero, suc, ◌+◌, ◌%◌, ◌^◌, ◌<◌, ◌≤◌, min, max, Bool, true, false, cond, not, ◌&&◌, eqb, leb, ◌⊎◌, List, [], ◌∷◌, length, get_or, refl, inl, inr, le_trans, le_refl, mod-eq_of_lt, le_antisymm, arith, eq-eqb, ne_eqb, eqb-true, le-leb, leb-false, leb-true}
use native.Mathlib.Nat.{mod-le}
use borrow.Author.Tests.{eqb-false, not-true}
use Rattle.std.specs.List.{fold}
use Rattle.walks.proofs.Lists.Every.{both}
use Rattle.phrases.specs.Phrases.{no_phrase, no_phrases, no_samples, is_over_by, reach_of, apart_of, others_of, beside_of_nothing, beside_with, beside_of}
use Rattle.phrases.specs.declared.Phrase.{Phrase}
use Rattle.phrases.specs.declared.Beside.{Beside}
use Rattle.phrases.proofs.Rooms.{ends_inside}
use Rattle.phrases.proofs.Apart.{apart_cases, apart_from_empty, apart_before, apart_behind}

-- ---- how far one reaches
module _ (p : Phrase) where
  pub reach_empty : p.length ≡ 0 → reach_of p ≡ 0
  unfolding reach_of no_samples
  reach_empty h = simp (eq-eqb p.length 0 h)

  pub reach_end : (capacity : ℕ) → is_over_by capacity p ≡ true → capacity < 2 ^ 64 → (p.length ≡ 0 → ⊥) → reach_of p ≡ p.start + p.length
  unfolding reach_of no_samples
  reach_end capacity ends small some =
      let h : p.start + p.length ≤ capacity = ends_inside p capacity ends in
      let l : p.start + p.length < 2 ^ 64 = omega arith in
      simp (ne_eqb p.length 0 some, mod-eq_of_lt l)

  pub reach_within : (capacity : ℕ) → is_over_by capacity p ≡ true → reach_of p ≤ capacity
  unfolding reach_of
  reach_within capacity ends = go (no_samples p)
    where
      go : (b : Bool) → cond b 0 ((p.start + p.length) % 2 ^ 64) ≤ capacity
      go true = omega arith
      go false = le_trans (mod-le (p.start + p.length) (2 ^ 64)) (ends_inside p capacity ends)

-- ---- the steps of the walk
module _ (place : ℕ) where
  behind_grows : (b : Beside) (ps : List Phrase) → b.behind ≤ (fold (beside_with place) b ps).behind
  unfolding beside_with
  behind_grows b [] = omega arith
  behind_grows b (p ∷ ps) = omega (arith, behind_grows (beside_with place b p) ps)

  behind_over : (b : Beside) (ps : List Phrase) (k : ℕ) → reach_of (get_or ps k no_phrase) ≤ (fold (beside_with place) b ps).behind
  unfolding beside_with
  behind_over b [] k = rw (reach_empty no_phrase refl) (omega arith)
  behind_over b (p ∷ ps) zero = omega (arith, behind_grows (beside_with place b p) ps)
  behind_over b (p ∷ ps) (suc k) = behind_over (beside_with place b p) ps k

  behind_under : (b : Beside) (ps : List Phrase) (n : ℕ) → b.behind ≤ n → ((k : ℕ) → k < length ps → reach_of (get_or ps k no_phrase) ≤ n)
      → (fold (beside_with place) b ps).behind ≤ n
  unfolding beside_with
  behind_under b [] n h f = h
  behind_under b (p ∷ ps) n h f = behind_under (beside_with place b p) ps n (omega (arith, f 0 (omega arith))) (λ k l. f (suc k) (omega arith))

  -- as far as before, or as one of them
  abbrev Reached : Beside → List Phrase → ℕ → Type 0
  Reached b ps n = (n ≡ b.behind) ⊎ ((k : ℕ) × (k < length ps) × (n ≡ reach_of (get_or ps k no_phrase)))

  behind_from : (b : Beside) (ps : List Phrase) → Reached b ps (fold (beside_with place) b ps).behind
  unfolding beside_with
  behind_from b [] = inl refl
  behind_from b (p ∷ ps) = go (behind_from (beside_with place b p) ps)
    where
      larger : (n : ℕ) (t : Bool) → leb (reach_of p) b.behind ≡ t → n ≡ max b.behind (reach_of p) → Reached b (p ∷ ps) n
      larger n true e f = inl (omega (arith, leb-true (reach_of p) b.behind e))
      larger n false e f = inr (0, omega arith, omega (arith, leb-false (reach_of p) b.behind e))

      go : {n : ℕ} → Reached (beside_with place b p) ps n → Reached b (p ∷ ps) n
      go {n} (inl e) = larger n (leb (reach_of p) b.behind) refl e
      go {n} (inr r) = inr (suc r.0, omega (arith, r.1), r.2)

  -- a step lowers the next to where a phrase with samples begins, if it begins at the place or behind it
  step_low : (b : Beside) (p : Phrase) → (beside_with place b p).next ≤ b.next
  unfolding beside_with
  step_low b p = go (not (no_samples p) && leb place p.start)
    where
      go : (t : Bool) → cond t (min b.next p.start) b.next ≤ b.next
      go true = omega arith
      go false = omega arith

  step-at : (b : Beside) (p : Phrase) → (p.length ≡ 0 → ⊥) → place ≤ p.start → (beside_with place b p).next ≤ p.start
  unfolding beside_with no_samples
  step-at b p some h = rw (ne_eqb p.length 0 some, le-leb place p.start h) (omega arith)

  step_over : (b : Beside) (p : Phrase) (n : ℕ) → n ≤ b.next → ((p.length ≡ 0 → ⊥) → place ≤ p.start → n ≤ p.start) → n ≤ (beside_with place b p).next
  unfolding beside_with no_samples
  step_over b p n h f = go (not (eqb p.length 0) && leb place p.start) refl
    where
      go : (t : Bool) → (not (eqb p.length 0) && leb place p.start) ≡ t → n ≤ cond t (min b.next p.start) b.next
      go true e =
          let t = both (not (eqb p.length 0)) (leb place p.start) e in
          omega (arith, f (eqb-false p.length 0 (not-true (eqb p.length 0) t.0)) (leb-true place p.start t.1))
      go false e = h

  next_falls : (b : Beside) (ps : List Phrase) → (fold (beside_with place) b ps).next ≤ b.next
  next_falls b [] = omega arith
  next_falls b (p ∷ ps) = omega (arith, next_falls (beside_with place b p) ps, step_low b p)

  next_at : (b : Beside) (ps : List Phrase) (k : ℕ) → ((get_or ps k no_phrase).length ≡ 0 → ⊥) → place ≤ (get_or ps k no_phrase).start
      → (fold (beside_with place) b ps).next ≤ (get_or ps k no_phrase).start
  next_at b [] k some h = absurd (some refl)
  next_at b (p ∷ ps) zero some h = omega (arith, next_falls (beside_with place b p) ps, step-at b p some h)
  next_at b (p ∷ ps) (suc k) some h = next_at (beside_with place b p) ps k some h

  next_over : (b : Beside) (ps : List Phrase) (n : ℕ) → n ≤ b.next
      → ((k : ℕ) → k < length ps → ((get_or ps k no_phrase).length ≡ 0 → ⊥) → place ≤ (get_or ps k no_phrase).start → n ≤ (get_or ps k no_phrase).start)
      → n ≤ (fold (beside_with place) b ps).next
  next_over b [] n h f = h
  next_over b (p ∷ ps) n h f = next_over (beside_with place b p) ps n (step_over b p n h (f 0 (omega arith))) (λ k l. f (suc k) (omega arith))

behind_alike : (place place' : ℕ) (b b' : Beside) (ps : List Phrase) → b.behind ≡ b'.behind
    → (fold (beside_with place) b ps).behind ≡ (fold (beside_with place') b' ps).behind
unfolding beside_with
behind_alike place place' b b' [] h = h
behind_alike place place' b b' (p ∷ ps) h = behind_alike place place' (beside_with place b p) (beside_with place' b' p) ps (rw h)

-- ---- how far they reach: as far as one of them does, whatever the place and the capacity
pub behind_same : (place place' capacity capacity' : ℕ) (ps : List Phrase) → (beside_of place capacity ps).behind ≡ (beside_of place' capacity' ps).behind
unfolding beside_of
behind_same place place' capacity capacity' ps = behind_alike place place' (beside_of_nothing capacity) (beside_of_nothing capacity') ps refl

-- where there are no others, there is room for all
pub beside_none : (place capacity : ℕ) → beside_of place capacity no_phrases ≡ beside_of_nothing capacity
unfolding beside_of beside_with reach_of no_samples
beside_none place capacity = refl

pub beside_alone : (place capacity chosen : ℕ) (table : List Phrase) → beside_of place capacity (others_of false chosen table) ≡ beside_of_nothing capacity
unfolding others_of
beside_alone place capacity chosen table = beside_none place capacity

module _ (place capacity : ℕ) (ps : List Phrase) where
  pub behind_reach : (k : ℕ) → reach_of (get_or ps k no_phrase) ≤ (beside_of place capacity ps).behind
  unfolding beside_of
  behind_reach k = behind_over place (beside_of_nothing capacity) ps k

  pub behind_least : (n : ℕ) → ((k : ℕ) → k < length ps → reach_of (get_or ps k no_phrase) ≤ n) → (beside_of place capacity ps).behind ≤ n
  unfolding beside_of
  behind_least n f = behind_under place (beside_of_nothing capacity) ps n (omega arith) f

  -- none reaches anywhere, or one of them reaches there
  pub behind_there : ((beside_of place capacity ps).behind ≡ 0) ⊎ ((k : ℕ) × (k < length ps) × ((beside_of place capacity ps).behind ≡ reach_of (get_or ps k no_phrase)))
  unfolding beside_of
  behind_there = behind_from place (beside_of_nothing capacity) ps

  pub behind_within : (size : ℕ) → ((k : ℕ) → k < length ps → is_over_by size (get_or ps k no_phrase) ≡ true) → (beside_of place capacity ps).behind ≤ size
  behind_within size f = behind_least size (λ k l. reach_within (get_or ps k no_phrase) size (f k l))

  -- one that begins there or behind it is apart from each that lies in a memory
  pub behind_apart : (q : Phrase) (k size : ℕ) → is_over_by size (get_or ps k no_phrase) ≡ true → size < 2 ^ 64 → (beside_of place capacity ps).behind ≤ q.start
      → apart_of q (get_or ps k no_phrase) ≡ true
  behind_apart q k size ends small h = go (eqb p.length 0) refl
    where
      p : Phrase
      p = get_or ps k no_phrase

      go : (b : Bool) → eqb p.length 0 ≡ b → apart_of q p ≡ true
      go true e = apart_from_empty q p (eqb-true p.length 0 e)
      go false e = apart_behind q p (omega (arith, behind_reach k, reach_end p size ends small (eqb-false p.length 0 e)))

  -- ---- where the next begins
  pub next_within : (beside_of place capacity ps).next ≤ capacity
  unfolding beside_of
  next_within = next_falls place (beside_of_nothing capacity) ps

  pub next_before : (k : ℕ) → ((get_or ps k no_phrase).length ≡ 0 → ⊥) → place ≤ (get_or ps k no_phrase).start → (beside_of place capacity ps).next ≤ (get_or ps k no_phrase).start
  unfolding beside_of
  next_before k some h = next_at place (beside_of_nothing capacity) ps k some h

  pub next_most : (n : ℕ) → n ≤ capacity
      → ((k : ℕ) → k < length ps → ((get_or ps k no_phrase).length ≡ 0 → ⊥) → place ≤ (get_or ps k no_phrase).start → n ≤ (get_or ps k no_phrase).start)
      → n ≤ (beside_of place capacity ps).next
  unfolding beside_of
  next_most n h f = next_over place (beside_of_nothing capacity) ps n h f

  -- where each with samples begins before the place there is room up to the capacity
  pub next-none : ((k : ℕ) → k < length ps → ((get_or ps k no_phrase).length ≡ 0 → ⊥) → (get_or ps k no_phrase).start < place) → (beside_of place capacity ps).next ≡ capacity
  next-none f = le_antisymm next_within (next_most capacity (le_refl capacity) (λ k l some at. absurd (omega (arith, f k l some))))

  -- so at a place that none reaches over
  pub next_free : (size : ℕ) → ((k : ℕ) → k < length ps → is_over_by size (get_or ps k no_phrase) ≡ true) → size < 2 ^ 64
      → (beside_of place capacity ps).behind ≤ place → (beside_of place capacity ps).next ≡ capacity
  next_free size within small h =
      next-none (λ k l some. omega (arith, behind_reach k, reach_end (get_or ps k no_phrase) size (within k l) small some))

  -- one that ends by the next is apart from each that one with samples at its place is apart from
  pub next_apart : (k n some : ℕ) → 0 < some → apart_of (record { start = place; length = some }) (get_or ps k no_phrase) ≡ true
      → place + n ≤ (beside_of place capacity ps).next → apart_of (record { start = place; length = n }) (get_or ps k no_phrase) ≡ true
  next_apart k n some pos h l = go (eqb p.length 0) refl
    where
      p : Phrase
      p = get_or ps k no_phrase

      q : Phrase
      q = record { start = place; length = n }

      go : (b : Bool) → eqb p.length 0 ≡ b → apart_of q p ≡ true
      go true e = apart_from_empty q p (eqb-true p.length 0 e)
      go false e =
          let full : p.length ≡ 0 → ⊥ = eqb-false p.length 0 e in
          apart_cases (record { start = place; length = some }) p h
          (λ z. absurd (omega arith))
          (λ z. apart_from_empty q p z)
          (λ before. apart_before q p (omega (arith, next_before k full (omega arith))))
          (λ after. apart_behind q p after)
