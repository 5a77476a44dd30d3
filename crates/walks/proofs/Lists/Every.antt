-- What holds of every element of a list holds of each, of its front, and of what a loop has left to walk. Over any element type. Assumes nothing.
use mathlib.Core.Path.{◌≡◌, refl, sym, ap, ◌∙◌}
use mathlib.Core.Bool.{Bool, true, false, ◌&&◌, true≢false}
use mathlib.Core.List.{List, [], ◌∷◌}
use Prim.Native.Nat.{ℕ, zero, suc, ◌+◌, ◌≤◌, ◌<◌}
use native.Mathlib.Omega.{arith}
use lib.ListN.{length, get_or, take, set}
use lib.Seq.{slice}
use Rattle.std.specs.List.{list_all, fold}
use Rattle.walks.proofs.Lists.Loops.{next, stored}

pub both : (a b : Bool) → (a && b) ≡ true → (a ≡ true) × (b ≡ true)
both true b h = (refl, h)
both false b h = absurd (true≢false (sym h))

module _ {A : Type 0} (p : A → Bool) where
  pub every_at : (l : List A) (j : ℕ) (d : A) → list_all p l ≡ true → j < length l → p (get_or l j d) ≡ true
  every_at [] j d h k = absurd (omega arith)
  every_at (x ∷ xs) zero d h k = (both (p x) (list_all p xs) h).0
  every_at (x ∷ xs) (suc j) d h k = every_at xs j d (both (p x) (list_all p xs) h).1 (omega arith)

  pub every_fewer : (l : List A) (n m : ℕ) → list_all p (take n l) ≡ true → m ≤ n → list_all p (take m l) ≡ true
  every_fewer l n zero h k = refl
  every_fewer l zero (suc m) h k = absurd (omega arith)
  every_fewer [] (suc n) (suc m) h k = refl
  every_fewer (x ∷ xs) (suc n) (suc m) h k =
      let g = both (p x) (list_all p (take n xs)) h in
      simp (g.0, every_fewer xs n m g.1 (omega arith))

  -- a fold that goes on behind one for which it doesn't hold
  folded_from : (l : List A) (ok : Bool) → fold (λ (b : Bool) (x : A). b && p x) ok l ≡ (ok && list_all p l)
  folded_from [] true = refl
  folded_from [] false = refl
  folded_from (x ∷ xs) true = folded_from xs (p x)
  folded_from (x ∷ xs) false = folded_from xs false

  pub all_folded : (l : List A) → fold (λ (b : Bool) (x : A). b && p x) true l ≡ list_all p l
  all_folded l = folded_from l true

  -- what is left to walk is good: its first is, and the rest is
  unfoldable pub Good : List A → ℕ → ℕ → Type 0
  Good l n i = list_all p (slice i n l) ≡ true

  pub good_first : (l : List A) (n i : ℕ) (d : A) → Good l n i → i < n → n ≤ length l → p (get_or l i d) ≡ true
  unfolding Good
  good_first l n i d g h k = (both (p (get_or l i d)) (list_all p (slice (i + 1) n l)) (sym (ap (list_all p) (next l i n d h k)) ∙ g)).0

  pub good_rest : (l : List A) (n i : ℕ) (d : A) → Good l n i → i < n → n ≤ length l → Good l n (i + 1)
  unfolding Good
  good_rest l n i d g h k = (both (p (get_or l i d)) (list_all p (slice (i + 1) n l)) (sym (ap (list_all p) (next l i n d h k)) ∙ g)).1

  pub good_store : (l : List A) (n i k : ℕ) (a : A) → Good l n (i + 1) → k ≤ i → Good (set l k a) n (i + 1)
  unfolding Good
  good_store l n i k a g h = ap (list_all p) (stored n l (i + 1) k a (omega arith)) ∙ g
