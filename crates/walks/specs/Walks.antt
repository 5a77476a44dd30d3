-- What a walk over a list keeps. Over any element type. Definitions only.
use Rattle.std.specs.Prelude.{Bool, cond, List, [], ◌∷◌}

module _ {A : Type 0} where
  -- those for which p is false, in order
  unfoldable pub without : (A → Bool) → List A → List A
  without p [] = []
  without p (x ∷ xs) = cond (p x) (without p xs) (x ∷ without p xs)

  -- those of them that stand behind the first for which p holds
  unfoldable pub behind : (A → Bool) → List A → List A
  behind p [] = []
  behind p (x ∷ xs) = cond (p x) (without p xs) (behind p xs)
