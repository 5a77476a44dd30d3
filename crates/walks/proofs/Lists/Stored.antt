-- A list l whose first i entries are another list's, as a loop leaves it that stores them one by one: `fronted xs l i`. Over any element type.
--     fronted_next     one entry more.        fronted_length     it is as long as l.        fronted_front     it is those entries, and what is left of l behind as many
-- Assumes nothing.
use mathlib.Core.Path.{◌≡◌, refl, sym, ap, ◌∙◌}
use mathlib.Core.List.{List, [], ◌∷◌, ◌++◌}
use Prim.Native.Nat.{ℕ, zero, suc, ◌<◌, ◌≤◌}
use native.Mathlib.Omega.{arith}
use lib.ListN.{length, get_or, take, drop, set}
use lib.Seq.{length_front, length-take-le}

module _ {X : Type 0} where
  abbrev pub fronted : List X → List X → ℕ → List X
  fronted xs l i = take i xs ++ drop i l

  pub fronted_next : (xs l : List X) (i : ℕ) (d : X) → i < length xs → i < length l → set (fronted xs l i) i (get_or xs i d) ≡ fronted xs l (suc i)
  fronted_next [] l i d h k = absurd (omega arith)
  fronted_next (x ∷ xs) [] i d h k = absurd (omega arith)
  fronted_next (x ∷ xs) (y ∷ l) zero d h k = refl
  fronted_next (x ∷ xs) (y ∷ l) (suc i) d h k = ap (λ (ys : List X). x ∷ ys) (fronted_next xs l i d (omega arith) (omega arith))

  pub fronted_length : (xs l : List X) (i : ℕ) → i ≤ length xs → i ≤ length l → length (fronted xs l i) ≡ length l
  fronted_length xs l i h k = length_front l (take i xs) i (length-take-le i xs h ∙ sym (length-take-le i l k))

  pub fronted_front : (xs l : List X) (i : ℕ) → i ≤ length xs → fronted xs l i ≡ take i xs ++ drop (length (take i xs)) l
  fronted_front xs l i h = ap (λ (k : ℕ). take i xs ++ drop k l) (sym (length-take-le i xs h))
