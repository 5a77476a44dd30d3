-- Bytes from a text of upper-case hexadecimal digits, among which spaces don't count: for computed examples. Assumes nothing.
use mathlib.Core.Bool.{cond}
use mathlib.Core.List.{List, [], ◌∷◌}
use Prim.Native.Nat.{ℕ, ◌+◌, ◌-◌, ◌*◌}
use Prim.Native.Char.{code}
use Prim.Native.String.{String}
use lib.Dec.{ltb, eqb}

-- the digits' values
unfoldable pub digits_of : String → List ℕ
digits_of String.[] = []
digits_of (String.◌∷◌ c s) = cond (eqb (code c) 32) (digits_of s) (cond (ltb (code c) 58) (code c - 48) (code c - 55) ∷ digits_of s)

unfoldable pub pairs : List ℕ → List ℕ
pairs [] = []
pairs (x ∷ []) = []
pairs (x ∷ y ∷ digits) = (x * 16 + y) ∷ pairs digits

unfoldable pub from_hex : String → List ℕ
from_hex s = pairs (digits_of s)
