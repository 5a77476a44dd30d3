-- The numbers in a WAVE file, each little-endian: of two or four bytes, the least significant first. Definitions only.
use Rattle.std.specs.Prelude.{List, [], ◌∷◌, ◌++◌, ℕ, zero, suc, ◌+◌}
use Rattle.octets.specs.Octets.{bytes_at, little_of, little_bytes}

unfoldable pub two_at : List ℕ → ℕ → ℕ
two_at f at = little_of (bytes_at 2 f at)

unfoldable pub four_at : List ℕ → ℕ → ℕ
four_at f at = little_of (bytes_at 4 f at)

-- `RIFF`, `WAVE`, `fmt `, `fact` and `data`, as numbers of four bytes
abbrev pub riff_id : ℕ
riff_id = 0x46464952

abbrev pub wave_id : ℕ
wave_id = 0x45564157

abbrev pub format_id : ℕ
format_id = 0x20746d66

abbrev pub fact_id : ℕ
fact_id = 0x74636166

abbrev pub data_id : ℕ
data_id = 0x61746164

-- numbers, k bytes each
unfoldable pub number_bytes : ℕ → List ℕ → List ℕ
number_bytes k [] = []
number_bytes k (n ∷ ns) = little_bytes k n ++ number_bytes k ns

-- words, four bytes each
unfoldable pub word_bytes : List ℕ → List ℕ
word_bytes [] = []
word_bytes (w ∷ ws) = little_bytes 4 w ++ word_bytes ws

-- g of each of n numbers from k on
unfoldable pub listed : (ℕ → ℕ) → ℕ → ℕ → List ℕ
listed g k zero = []
listed g k (suc n) = g k ∷ listed g (k + 1) n
