-- Runs of stores, `sets l i xs`: xs stored in the list l element by element from place i on. Over any element type.
-- Assumes nothing.
use mathlib.Core.Path.{◌≡◌, sym, ap, ◌∙◌}
use mathlib.Core.List.{List, [], ◌∷◌, ◌++◌}
use Prim.Native.Nat.{ℕ, suc, ◌+◌, ◌≤◌, ◌<◌}
use native.Mathlib.Nat.{add-zero, zero-add, add-suc, suc-add}
use native.Mathlib.Numerals.{add-one}
use native.Mathlib.Omega.{arith}
use lib.ListN.{length, get_or, drop, set, drop_of_length-le}
use lib.Seq.{sets, sets-eq, drop-cons, set_comm}

module _ {A : Type 0} where
  -- what is left of xs from its place k on goes on with its first
  pub run_first : (l xs : List A) (i k : ℕ) (d : A) → k < length xs
      → sets l (i + k) (drop k xs) ≡ sets (set l (i + k) (get_or xs k d)) (i + (k + 1)) (drop (k + 1) xs)
  run_first l xs i k d h = rw (drop-cons xs k d h, add-one k, add-suc i k)

  -- past the end of xs nothing is left
  pub run_over : (l xs : List A) (i k : ℕ) → length xs ≤ k → sets l i (drop k xs) ≡ l
  run_over l xs i k h = rw (drop_of_length-le xs h)

  -- the last may be stored first
  pub run_last : (l xs : List A) (i : ℕ) (a : A) → sets l i (xs ++ (a ∷ [])) ≡ sets (set l (i + length xs) a) i xs
  run_last l [] i a = ap (λ (k : ℕ). set l k a) (sym (add-zero i))
  run_last l (x ∷ xs) i a =
      run_last (set l i x) xs (suc i) a
      ∙ ap (λ (m : List A). sets m (suc i) xs)
      (set_comm l i (suc i + length xs) x a (omega arith) ∙ ap (λ (k : ℕ). set (set l k a) i x) (suc-add i (length xs) ∙ sym (add-suc i (length xs))))

  -- one run after the other
  pub run-append : (l xs ys : List A) (i : ℕ) → sets (sets l i xs) (i + length xs) ys ≡ sets l i (xs ++ ys)
  run-append l [] ys i = ap (λ (k : ℕ). sets l k ys) (add-zero i)
  run-append l (x ∷ xs) ys i =
      ap (λ (k : ℕ). sets (sets (set l i x) (suc i) xs) k ys) (add-suc i (length xs) ∙ sym (suc-add i (length xs)))
      ∙ run-append (set l i x) xs ys (suc i)

  -- a run from the front on
  pub run_front : (l xs : List A) → length xs ≤ length l → sets l 0 xs ≡ xs ++ drop (length xs) l
  run_front l xs h = sets-eq xs l 0 (omega arith) ∙ ap (λ (k : ℕ). xs ++ drop k l) (zero-add (length xs))
