-- What stands at a place of a record: big-endian numbers, and floats by their bits. Definitions only.
use Rattle.std.specs.Prelude.{List, ℕ, Float}
use Rattle.octets.specs.Octets.{bytes_at, number_of}
use Rattle.binary32.specs.Leaves.{float_of}

abbrev pub u32_of : List ℕ → ℕ → ℕ
u32_of f at = number_of (bytes_at 4 f at)

abbrev pub u64_of : List ℕ → ℕ → ℕ
u64_of f at = number_of (bytes_at 8 f at)

abbrev pub f32_of : List ℕ → ℕ → Float
f32_of f at = float_of (u32_of f at)
