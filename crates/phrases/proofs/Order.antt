-- Phrases that stand in the order of their numbers, each behind those before it, are good. Assumes nothing.
use Rattle.std.proofs.Common.{◌≡◌, ℕ, zero, suc, ◌+◌, ◌^◌, ◌<◌, ◌≤◌, Bool, true, false, cond, ◌&&◌, leb, List, get_or, sym, refl, ◌∙◌, inr, add-one, arith, leb-true}
use Rattle.walks.proofs.Lists.Every.{both}
use Rattle.walks.proofs.Tests.{joined}
use Rattle.phrases.specs.Phrases.{no_phrase, no_samples, is_over_by, reach_of, apart_of, every_below, good_at, clear_of, reach_from, reach_below, is_in_order}
use Rattle.phrases.specs.declared.Phrase.{Phrase}
use Rattle.phrases.proofs.Below.{below_more, below_next, below_all, below_not}
use Rattle.phrases.proofs.Rooms.{holds_none, holds_some, inside_ends}
use Rattle.phrases.proofs.Apart.{apart_empty, apart_made}
use Rattle.phrases.proofs.Reaches.{reach_end}

-- what is clear lies within the capacity, is apart from each that ends by the place, and reaches further
module _ (upto capacity : ℕ) (p : Phrase) where
  record Clear : Type 0 where
    within : is_over_by capacity p ≡ true
    apart : (q : Phrase) → (0 < q.length → q.start + q.length ≤ upto) → apart_of p q ≡ true
    further : capacity < 2 ^ 64 → upto ≤ reach_from upto p
    ends : capacity < 2 ^ 64 → 0 < p.length → p.start + p.length ≤ reach_from upto p

  clear_so : clear_of upto capacity p ≡ true → Clear
  unfolding clear_of reach_from
  clear_so = go (no_samples p) refl
    where
      go : (b : Bool) → no_samples p ≡ b → cond b (leb p.start capacity) (leb upto p.start && is_over_by capacity p) ≡ true → Clear
      go true e h =
          let none : p.length ≡ 0 = holds_none p e in
          record {
            within = inside_ends p capacity (omega (arith, none, leb-true p.start capacity h));
            apart = λ q l. apart_empty p q none;
            further = λ small. rw e (omega arith);
            ends = λ small some. absurd (omega (arith, none, some));
          }
      go false e h =
          let t = both (leb upto p.start) (is_over_by capacity p) h in
          let behind : upto ≤ p.start = leb-true upto p.start t.0 in
          let end : capacity < 2 ^ 64 → reach_of p ≡ p.start + p.length = λ small. reach_end p capacity t.1 small (λ z. omega (arith, z, holds_some p e)) in
          record {
            within = t.1;
            apart = λ q l. apart_made p q (λ a b. inr (omega (arith, behind, l b)));
            further = λ small. rw e (omega (arith, behind, end small));
            ends = λ small some. rw e (omega (arith, end small));
          }

module _ (capacity : ℕ) (small : capacity < 2 ^ 64) (ps : List Phrase) where
  abbrev at : ℕ → Phrase
  at k = get_or ps k no_phrase

  module _ (k : ℕ) (c : Clear (reach_below ps k) capacity (at k)) (upto : (j : ℕ) → j < k → 0 < (at j).length → (at j).start + (at j).length ≤ reach_below ps k) where
    clear_good : good_at capacity ps k ≡ true
    unfolding good_at
    clear_good =
        joined (is_over_by capacity (at k)) (every_below k (λ (j : ℕ). apart_of (at k) (at j))) c.within
        (below_all (λ (j : ℕ). apart_of (at k) (at j)) k (λ j l. c.apart (at j) (upto j l)))

  -- those before the k-th are good, and each ends by how far they reach
  in_order : (k : ℕ) → is_in_order capacity ps k ≡ true
      → (every_below k (good_at capacity ps) ≡ true) × ((j : ℕ) → j < k → 0 < (at j).length → (at j).start + (at j).length ≤ reach_below ps k)
  unfolding is_in_order every_below reach_below
  in_order zero h = (refl, λ j l. absurd (omega (arith, l)))
  in_order (suc k) h =
      let t = both (is_in_order capacity ps k) (clear_of (reach_below ps k) capacity (at k)) h in
      let b = in_order k t.0 in
      let c = clear_so (reach_below ps k) capacity (at k) t.1 in (
        joined (every_below k (good_at capacity ps)) (good_at capacity ps k) b.0 (clear_good k c b.1),
        below_more (λ (i : ℕ). 0 < (at i).length → (at i).start + (at i).length ≤ reach_from (reach_below ps k) (at k)) k
            (λ i l some. omega (arith, b.1 i l some, c.further small)) (c.ends small),
      )

  pub order_good : (n : ℕ) → is_in_order capacity ps n ≡ true → every_below n (good_at capacity ps) ≡ true
  order_good n h = (in_order n h).0

-- ---- as a loop goes
module _ (ps : List Phrase) where
  pub reach_none : 0 ≡ reach_below ps 0
  unfolding reach_below
  reach_none = refl

  pub reach_next : (k : ℕ) → reach_from (reach_below ps k) (get_or ps k no_phrase) ≡ reach_below ps (k + 1)
  unfolding reach_below
  reach_next k = rw add-one

module _ (capacity : ℕ) (ps : List Phrase) where
  abbrev clear : ℕ → Bool
  clear k = clear_of (reach_below ps k) capacity (get_or ps k no_phrase)

  pub order_none : is_in_order capacity ps 0 ≡ true
  unfolding is_in_order every_below
  order_none = refl

  pub order_next : (k : ℕ) → is_in_order capacity ps k ≡ true → clear k ≡ true → is_in_order capacity ps (k + 1) ≡ true
  unfolding is_in_order
  order_next k before here = below_next clear k ∙ joined (every_below k clear) (clear k) before here

  pub order_not : (n k : ℕ) → k < n → clear k ≡ false → false ≡ is_in_order capacity ps n
  unfolding is_in_order
  order_not n k l h = sym (below_not clear n k l h)
