-- One phrase: it has samples or none. They are those of its room, which lies within the memory; where the phrase does, it is its room. Assumes nothing.
use Rattle.std.proofs.Common.{◌≡◌, ℕ, ◌+◌, ◌-◌, ◌<◌, ◌≤◌, min, Bool, true, false, leb, List, length, take, drop, sym, refl, ap, ◌∙◌, le_refl, le_of_lt, pos_of_ne-zero, arith, length-drop, drop_of_length-le, length-take-le, take_all, ne_eqb, eqb-true, le-leb, leb-false, leb-true}
use native.Mathlib.Nat.{min-le_right, min-eq_left, min-eq_right, add-sub_cancel_left}
use borrow.Author.Tests.{eqb-false}
use Rattle.phrases.specs.Phrases.{no_samples, is_over_by, stored_in, room_of}
use Rattle.phrases.specs.declared.Phrase.{Phrase}

-- a list has no more to take or to drop than there is
module _ (l : List ℕ) (n : ℕ) where
  clipped : {X : Type 0} (f : ℕ → X) → (length l ≤ n → f (length l) ≡ f n) → f (min n (length l)) ≡ f n
  clipped f all = go (leb n (length l)) refl
    where
      go : (b : Bool) → leb n (length l) ≡ b → f (min n (length l)) ≡ f n
      go true e = ap f (min-eq_left (leb-true n (length l) e))
      go false e = let k = le_of_lt (leb-false n (length l) e) in ap f (min-eq_right k) ∙ all k

  take_min : take (min n (length l)) l ≡ take n l
  take_min = clipped (λ (k : ℕ). take k l) (λ k. take_all (length l) l (le_refl (length l)) ∙ sym (take_all n l k))

  drop_min : drop (min n (length l)) l ≡ drop n l
  drop_min = clipped (λ (k : ℕ). drop k l) (λ k. drop_of_length-le l (le_refl (length l)) ∙ sym (drop_of_length-le l k))

module _ (p : Phrase) where
  -- ---- samples or none
  pub holds_some : no_samples p ≡ false → 0 < p.length
  unfolding no_samples
  holds_some e = pos_of_ne-zero (eqb-false p.length 0 e)

  pub some_holds : 0 < p.length → no_samples p ≡ false
  unfolding no_samples
  some_holds h = ne_eqb p.length 0 (omega arith)

  pub holds_none : no_samples p ≡ true → p.length ≡ 0
  unfolding no_samples
  holds_none e = eqb-true p.length 0 e

  -- ---- its room
  pub room_inside : (size : ℕ) → ((room_of p size).from ≤ (room_of p size).to) × ((room_of p size).to ≤ size)
  unfolding room_of
  room_inside size =
      let from : ℕ = min p.start size in
      let low : from ≤ size = min-le_right p.start size in
      let room : min p.length (size - from) ≤ size - from = min-le_right p.length (size - from) in
      (omega arith, omega (arith, low, room))

  pub room_stored : (m : List ℕ)
      → take ((room_of p (length m)).to - (room_of p (length m)).from) (drop (room_of p (length m)).from m) ≡ stored_in p m
  unfolding room_of stored_in
  room_stored m =
      let from : ℕ = min p.start (length m) in
      let rest : List ℕ = drop from m in
      ap (λ (k : ℕ). take k rest) (add-sub_cancel_left from (min p.length (length m - from)))
      ∙ ap (λ (k : ℕ). take (min p.length k) rest) (sym (length-drop from m))
      ∙ take_min rest p.length
      ∙ ap (take p.length) (drop_min m p.start)

  -- ---- of a phrase that ends by the memory's
  module _ (size : ℕ) (ends : is_over_by size p ≡ true) where
    pub ends_inside : p.start + p.length ≤ size
    unfolding is_over_by
    ends_inside = leb-true (p.start + p.length) size ends

    pub room_from : (room_of p size).from ≡ p.start
    unfolding room_of
    room_from = min-eq_left (omega (arith, ends_inside))

    pub room_to : (room_of p size).to ≡ p.start + p.length
    unfolding room_of
    room_to =
        let from : min p.start size ≡ p.start = room_from in
        ap (λ (k : ℕ). k + min p.length (size - k)) from ∙ ap (λ (k : ℕ). p.start + k) (min-eq_left (omega (arith, ends_inside)))

  -- and one that lies inside ends by it
  pub inside_ends : (size : ℕ) → p.start + p.length ≤ size → is_over_by size p ≡ true
  unfolding is_over_by
  inside_ends size h = le-leb (p.start + p.length) size h

  pub stored_length : (m : List ℕ) → is_over_by (length m) p ≡ true → length (stored_in p m) ≡ p.length
  unfolding stored_in
  stored_length m ends = length-take-le p.length (drop p.start m) (omega (arith, ends_inside (length m) ends, length-drop p.start m))
