-- An element of an array that a record holds is what its type says. Assumes nothing.
use Rattle.std.proofs.Common.{ℕ, zero, suc, ◌<◌, List, [], ◌∷◌, length, get_or, arith}
use base.Fml.{Fml}
use mir.Val.{Val}
use denote.Shadow.{shadow}
use denote.Array.{each}

module _ {A : Type 0} (own : A → List Val → Fml) where
  pub element : (xs : List A) (us : List Val) (i : ℕ) (d : A) → i < length xs → shadow (each A own xs us) → (u : Val) × shadow (own (get_or xs i d) (u ∷ []))
  element [] us i d h p = absurd (omega arith)
  element (x ∷ xs) [] i d h p = absurd p
  element (x ∷ xs) (u ∷ us) zero d h p = (u, p.0)
  element (x ∷ xs) (u ∷ us) (suc i) d h p = element xs us i d (omega arith) p.1
