-- What one element more adds to what is found of a list's front. Over any element type. Assumes nothing.
use mathlib.Core.Path.{◌≡◌, refl, ◌∙◌, ap}
use Prim.Native.Nat.{ℕ, zero, suc, ◌<◌}
use native.Mathlib.Nat.{not-suc-le-zero, le_of_suc-le-suc}
use mathlib.Core.Bool.{Bool, true, false, ◌&&◌, ◌||◌}
use mathlib.Core.List.{List, [], ◌∷◌}
use lib.ListN.{length, get_or, take}
use Rattle.std.specs.List.{list_any, list_all}
use Rattle.walks.proofs.Tests.{and-true, and_assoc, or-false}

module _ {A : Type 0} (p : A → Bool) (d : A) where
  pub any_next : (i : ℕ) (l : List A) → i < length l → (list_any p (take i l) || p (get_or l i d)) ≡ list_any p (take (suc i) l)
  any_next i [] lt = absurd (not-suc-le-zero lt)
  any_next zero (x ∷ xs) lt = or-false (p x)
  any_next (suc i) (x ∷ xs) lt = or_assoc (p x) (list_any p (take i xs)) (p (get_or xs i d)) ∙ ap (λ (b : Bool). p x || b) (any_next i xs (le_of_suc-le-suc lt))
    where
      or_assoc : (a b c : Bool) → ((a || b) || c) ≡ (a || (b || c))
      or_assoc true b c = refl
      or_assoc false b c = refl

  pub every_next : (i : ℕ) (l : List A) → i < length l → (list_all p (take i l) && p (get_or l i d)) ≡ list_all p (take (suc i) l)
  every_next i [] lt = absurd (not-suc-le-zero lt)
  every_next zero (x ∷ xs) lt = and-true (p x)
  every_next (suc i) (x ∷ xs) lt = and_assoc (p x) (list_all p (take i xs)) (p (get_or xs i d)) ∙ ap (λ (b : Bool). p x && b) (every_next i xs (le_of_suc-le-suc lt))
