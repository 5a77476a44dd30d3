-- A line of text, by value: what goes to its end, and what it prints to a lent list. Definitions only.
use Rattle.std.specs.Prelude.{Bool, cond, List, [], ◌∷◌, ◌++◌, ℕ, ◌+◌, leb, length, take, drop, replicate}
use Prim.Native.Char.{code}
use Prim.Native.String.{String}
use Rattle.std.proofs.lemmas.List.Edits.{sets}
use Rattle.decimal.specs.declared.Line.{Line}

-- the bytes of an ASCII text
unfoldable pub bytes : String → List ℕ
bytes String.[] = []
bytes (String.◌∷◌ c s) = code c ∷ bytes s

-- the line of a text, with zeros after it
unfoldable pub line_of : List ℕ → Line
line_of text = record { bytes = sets (replicate 64 0) 0 text; length = length text }

-- one more text after what a line has; where there is no room for all of it, none
unfoldable pub with_of : Line → List ℕ → Line
with_of l text = cond (leb (l.length + length text) 64)
    (record { bytes = sets l.bytes l.length text; length = l.length + length text }) l

-- the text of a line
unfoldable pub text_of : Line → List ℕ
text_of l = take l.length l.bytes

-- whether a text fits in a lent list, and that list afterwards: it keeps what stood past the text, or all if it is too
-- short
abbrev pub fits_in : List ℕ → List ℕ → Bool
fits_in text lent = leb (length text) (length lent)

unfoldable pub printed_of : List ℕ → List ℕ → List ℕ
printed_of text lent = cond (fits_in text lent) (text ++ drop (length text) lent) lent
