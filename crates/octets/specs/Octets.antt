-- The bytes of a file, and the number that bytes make. Definitions only.
use Rattle.std.specs.Prelude.{List, [], ◌∷◌, ℕ, zero, suc, ◌+◌, ◌*◌, ◌/◌, ◌%◌, ◌<◌, get_or}
use Rattle.walks.specs.Each.{Each}

-- the byte at a place; one that isn't there is 0
abbrev pub byte_at : List ℕ → ℕ → ℕ
byte_at f at = get_or f at 0

-- k bytes from a place on
unfoldable pub bytes_at : ℕ → List ℕ → ℕ → List ℕ
bytes_at zero f at = []
bytes_at (suc k) f at = byte_at f at ∷ bytes_at k f (at + 1)

-- a list of bytes
abbrev pub Byte : ℕ → Type 0
Byte b = b < 256

abbrev pub Bytes : List ℕ → Type 0
Bytes bs = Each Byte bs

-- ---- the most significant byte first

-- the number that bytes make after the number n, the most significant first: each makes 256 of what stands before it
unfoldable pub number_after : ℕ → List ℕ → ℕ
number_after n [] = n
number_after n (b ∷ bs) = number_after (n * 256 + b) bs

unfoldable pub number_of : List ℕ → ℕ
number_of bs = number_after 0 bs

-- ---- the least significant byte first

unfoldable pub little_of : List ℕ → ℕ
little_of [] = 0
little_of (b ∷ bs) = b + 256 * little_of bs

-- a number as k bytes; what they don't hold of it is left out
unfoldable pub little_bytes : ℕ → ℕ → List ℕ
little_bytes zero n = []
little_bytes (suc k) n = n % 256 ∷ little_bytes k (n / 256)
