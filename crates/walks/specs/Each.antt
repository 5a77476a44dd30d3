-- What holds of each element of a list. Over any element type. Definitions only. Assumes nothing.
use Rattle.std.specs.Prelude.{List, [], ◌∷◌}

unfoldable pub Each : {A : Type 0} → (A → Type 0) → List A → Type 0
Each P [] = Unit {0}
Each P (x ∷ xs) = P x × Each P xs
