-- What holds of every number below one; a number is another or not, and lies before another or not. Assumes nothing.
use Rattle.std.proofs.Common.{◌≡◌, ℕ, zero, suc, ◌+◌, ◌<◌, ◌≤◌, Bool, true, false, ◌&&◌, eqb, ltb, List, length, take, get_or, ap, ◌≢◌, ◌⊎◌, sym, refl, ◌∙◌, subst, inl, inr, ⊎_elim, true≢false, le_of_suc-le-suc, eq-or-lt_of_le, add-one, arith, ltb-false, ltb-true, eqb-true}
use Rattle.std.proofs.lemmas.List.Folds.{list_all_more}
use Rattle.std.specs.List.{list_all}
use borrow.Author.Tests.{eqb-false}
use Rattle.walks.proofs.Lists.Every.{both}
use Rattle.walks.proofs.Tests.{joined}
use Rattle.phrases.specs.Phrases.{every_below}

pub same_or : (i k : ℕ) → (i ≡ k) ⊎ (i ≢ k)
same_or i k = go (eqb i k) refl
  where
    go : (b : Bool) → eqb i k ≡ b → (i ≡ k) ⊎ (i ≢ k)
    go true e = inl (eqb-true i k e)
    go false e = inr (eqb-false i k e)

pub before_or : (a place : ℕ) → (a < place) ⊎ (place ≤ a)
before_or a place = go (ltb a place) refl
  where
    go : (b : Bool) → ltb a place ≡ b → (a < place) ⊎ (place ≤ a)
    go true e = inl (ltb-true a place e)
    go false e = inr (ltb-false a place e)

-- what holds below n and at n
pub below_more : (P : ℕ → Type 0) (n : ℕ) → ((k : ℕ) → k < n → P k) → P n → (k : ℕ) → k < suc n → P k
below_more P n h e k l = ⊎_elim (λ c. subst P (sym c) e) (h k) (eq-or-lt_of_le (le_of_suc-le-suc l))

module _ (f : ℕ → Bool) where
  -- one more, as a loop counts
  pub below_next : (n : ℕ) → every_below (n + 1) f ≡ (every_below n f && f n)
  unfolding every_below
  below_next n = rw add-one

  pub below_at : (n k : ℕ) → every_below n f ≡ true → k < n → f k ≡ true
  unfolding every_below
  below_at zero k h l = absurd (omega arith)
  below_at (suc n) k h l =
      let b = both (every_below n f) (f n) h in
      below_more (λ (i : ℕ). f i ≡ true) n (λ i. below_at n i b.0) b.1 k l

  pub below_all : (n : ℕ) → ((k : ℕ) → k < n → f k ≡ true) → every_below n f ≡ true
  unfolding every_below
  below_all zero h = refl
  below_all (suc n) h = joined (every_below n f) (f n) (below_all n (λ k l. h k (omega arith))) (h n (omega arith))

  -- one for which it doesn't hold
  pub below_not : (n k : ℕ) → k < n → f k ≡ false → every_below n f ≡ false
  below_not n k l h = go (every_below n f) refl
    where
      go : (b : Bool) → every_below n f ≡ b → b ≡ false
      go true e = absurd (true≢false (sym (below_at n k e l) ∙ h))
      go false e = refl

-- the first n of a list, by their places
pub front_all : {X : Type 0} (p : X → Bool) (xs : List X) (d : X) (n : ℕ) → n ≤ length xs
    → list_all p (take n xs) ≡ every_below n (λ (k : ℕ). p (get_or xs k d))
unfolding every_below
front_all p xs d zero h = refl
front_all p xs d (suc n) h =
    ap (λ (k : ℕ). list_all p (take k xs)) (sym (add-one n))
    ∙ list_all_more p xs n d (omega arith)
    ∙ ap (λ (b : Bool). b && p (get_or xs n d)) (front_all p xs d n (omega arith))
