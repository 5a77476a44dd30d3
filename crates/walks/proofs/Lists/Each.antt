-- What holds of each element of a list holds of each that a walk keeps or makes, and of the front of an array after a store. Over any element type.
-- Assumes nothing.
use mathlib.Core.Path.{◌≡◌, refl, sym, ap, ◌∙◌, subst}
use mathlib.Core.Bool.{Bool, true, false, cond}
use mathlib.Core.List.{List, [], ◌∷◌, map}
use Prim.Native.Nat.{ℕ, zero, suc, ◌+◌, ◌-◌, ◌≤◌, ◌<◌}
use native.Mathlib.Nat.{zero-add}
use native.Mathlib.Numerals.{add-one}
use native.Mathlib.Omega.{arith}
use lib.ListN.{length, get_or, take, drop, set, length-map}
use lib.Seq.{sets, sets-eq, take-append_seam, length-take-le}
use Rattle.std.specs.List.{list_any, list_all}
use Rattle.walks.specs.Walks.{without, behind}
use Rattle.walks.specs.Each.{Each}
use Rattle.walks.proofs.Lists.Every.{both}
use Rattle.walks.proofs.Tests.{neither}

module _ {A : Type 0} (P : A → Type 0) where
  pub each_at : (l : List A) (i : ℕ) (d : A) → Each P l → i < length l → P (get_or l i d)
  unfolding Each
  each_at [] i d h k = absurd (omega arith)
  each_at (x ∷ xs) zero d h k = h.0
  each_at (x ∷ xs) (suc i) d h k = each_at xs i d h.1 (omega arith)

  pub each_front : (l : List A) (n : ℕ) → Each P l → Each P (take n l)
  unfolding Each
  each_front l zero h = tt
  each_front [] (suc n) h = tt
  each_front (x ∷ xs) (suc n) h = (h.0, each_front xs n h.1)

  -- what a walk keeps
  pub each_without : (p : A → Bool) (l : List A) → Each P l → Each P (without p l)
  unfolding Each without
  each_without p [] h = tt
  each_without p (x ∷ xs) h = go (p x) (each_without p xs h.1)
    where
      go : (b : Bool) → Each P (without p xs) → Each P (cond b (without p xs) (x ∷ without p xs))
      go true k = k
      go false k = (h.0, k)

  -- a store in the front, or past it
  pub each_set : (l : List A) (n i : ℕ) (a : A) → Each P (take n l) → P a → Each P (take n (set l i a))
  unfolding Each
  each_set l zero i a h k = tt
  each_set [] (suc n) i a h k = tt
  each_set (x ∷ xs) (suc n) zero a h k = (k, h.1)
  each_set (x ∷ xs) (suc n) (suc i) a h k = (h.0, each_set xs n i a h.1 k)

  -- a store at the end of the front, which is then one longer
  pub each_push : (l : List A) (n : ℕ) (a : A) → Each P (take n l) → P a → Each P (take (n + 1) (set l n a))
  unfolding Each
  each_push l n a h k = subst (λ (j : ℕ). Each P (take j (set l n a))) (sym (add-one n)) (go l n h)
    where
      go : (l : List A) (n : ℕ) → Each P (take n l) → Each P (take (suc n) (set l n a))
      go [] n h = tt
      go (x ∷ xs) zero h = (k, tt)
      go (x ∷ xs) (suc n) h = (h.0, go xs n h.1)

  -- what holds of each by a test is what `every` tests
  pub each_every : (p : A → Bool) (l : List A) → ((x : A) → P x → p x ≡ true) → Each P l → list_all p l ≡ true
  unfolding Each
  each_every p [] f h = refl
  each_every p (x ∷ xs) f h = rw (f x h.0) (each_every p xs f h.1)

module _ {A B : Type 0} (P : A → Type 0) (Q : B → Type 0) where
  -- what a walk makes of each
  pub each_map : (f : A → B) → ((x : A) → P x → Q (f x)) → (l : List A) → Each P l → Each Q (map f l)
  unfolding Each
  each_map f g [] h = tt
  each_map f g (x ∷ xs) h = (g x h.0, each_map f g xs h.1)

module _ {A : Type 0} where
  pub each_weaker : (P Q : A → Type 0) → ((x : A) → P x → Q x) → (l : List A) → Each P l → Each Q l
  unfolding Each
  each_weaker P Q g [] h = tt
  each_weaker P Q g (x ∷ xs) h = (g x h.0, each_weaker P Q g xs h.1)

  pub every_each : (P Q : A → Type 0) (p : A → Bool) → ((x : A) → p x ≡ true → P x → Q x) → (l : List A) → list_all p l ≡ true → Each P l → Each Q l
  unfolding Each
  every_each P Q p f [] h k = tt
  every_each P Q p f (x ∷ xs) h k =
      let b = both (p x) (list_all p xs) h in
      (f x b.0 k.0, every_each P Q p f xs b.1 k.1)

  -- of none that p holds of
  pub any_each : (P Q : A → Type 0) (p : A → Bool) → ((x : A) → p x ≡ false → P x → Q x) → (l : List A) → list_any p l ≡ false → Each P l → Each Q l
  unfolding Each
  any_each P Q p f [] h k = tt
  any_each P Q p f (x ∷ xs) h k =
      let b = neither (p x) (list_any p xs) h in
      (f x b.0 k.0, any_each P Q p f xs b.1 k.1)

  -- the front of an array in which a list was stored is that list
  pub front_sets : (l vs : List A) → length vs ≤ length l → take (length vs) (sets l 0 vs) ≡ vs
  front_sets l vs h =
      ap (take (length vs)) (sets-eq vs l 0 (subst (λ (n : ℕ). n ≤ length l) (sym (zero-add (length vs))) h))
      ∙ take-append_seam vs (drop (0 + length vs) l)

  pub fewer : (p : A → Bool) (l : List A) → length (without p l) ≤ length l
  unfolding without
  fewer p [] = omega arith
  fewer p (x ∷ xs) = go (p x) (fewer p xs)
    where
      go : (b : Bool) → length (without p xs) ≤ length xs → length (cond b (without p xs) (x ∷ without p xs)) ≤ suc (length xs)
      go true k = omega arith
      go false k = omega arith

  -- one that isn't kept stands before those behind it
  pub behind_fewer : (p : A → Bool) (l : List A) → length (behind p l) ≤ length l - 1
  unfolding behind
  behind_fewer p [] = omega arith
  behind_fewer p (x ∷ xs) = go (p x) (fewer p xs) (behind_fewer p xs)
    where
      go : (b : Bool) → length (without p xs) ≤ length xs → length (behind p xs) ≤ length xs - 1 → length (cond b (without p xs) (behind p xs)) ≤ suc (length xs) - 1
      go true h k = omega arith
      go false h k = omega arith

  pub front_map : (f : A → A) (l : List A) (n : ℕ) → n ≤ length l → take n (sets l 0 (map f (take n l))) ≡ map f (take n l)
  front_map f l n h =
      let e : length (map f (take n l)) ≡ n = length-map (take n l) f ∙ length-take-le n l h in
      subst (λ (k : ℕ). take k (sets l 0 (map f (take n l))) ≡ map f (take n l)) e
      (front_sets l (map f (take n l)) (subst (λ (k : ℕ). k ≤ length l) (sym e) h))
