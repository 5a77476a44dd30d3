-- The entries of the frames that a record of kind 19 asks for. Definitions only.
use Rattle.std.specs.Prelude.{List, [], ◌∷◌, ℕ, Float}
use Rattle.std.specs.Float.{binary32}
use Rattle.std.specs.Float.Ieee.{add, mul, neg}
use Rattle.binary32.specs.Leaves.{as_float}
use Rattle.oracle_lines.specs.Fields.{f32_of}

-- of frame i the first: the float at 4, and i times the float at 8 more
abbrev pub first_at : List ℕ → ℕ → Float
first_at f i = add binary32 (f32_of f 4) (mul binary32 (as_float i) (f32_of f 8))

abbrev pub entries_at_of : List ℕ → ℕ → List Float
entries_at_of f i = first_at f i ∷ neg (first_at f i) ∷ first_at f i ∷ []
