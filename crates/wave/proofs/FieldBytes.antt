-- The bytes of a field of a file, one by one, read and stored. Assumes nothing.
use mathlib.Core.Path.{◌≡◌, sym, ap}
use mathlib.Core.List.{List, [], ◌∷◌}
use Prim.Native.Nat.{ℕ, suc, ◌+◌, ◌/◌, ◌%◌}
use native.Mathlib.Nat.{add_assoc}
use native.Mathlib.Omega.{arith}
use lib.ListN.{set}
use lib.Seq.{sets}
use Rattle.octets.specs.Octets.{byte_at, bytes_at, little_of, little_bytes}
use Rattle.wave.specs.Fields.{four_at}

four_bytes : (f : List ℕ) (at : ℕ) → bytes_at 4 f at ≡ byte_at f at ∷ byte_at f (at + 1) ∷ byte_at f (at + 2) ∷ byte_at f (at + 3) ∷ []
unfolding bytes_at
four_bytes f at = simp add_assoc

pub four_is : (f : List ℕ) (at : ℕ) → little_of (byte_at f at ∷ byte_at f (at + 1) ∷ byte_at f (at + 2) ∷ byte_at f (at + 3) ∷ []) ≡ four_at f at
unfolding four_at
four_is f at = ap little_of (sym (four_bytes f at))

-- stored one by one
module _ (l : List ℕ) (at n : ℕ) where
  one_more : at + 1 ≡ suc at
  one_more = omega arith

  pub two_stored : set (set l at (n % 256)) (at + 1) (n / 256 % 256) ≡ sets l at (little_bytes 2 n)
  unfolding little_bytes
  two_stored = rw one_more

  pub four_stored : set (set (set (set l at (n % 256)) (at + 1) (n / 256 % 256)) (at + 2) (n / 256 / 256 % 256)) (at + 3) (n / 256 / 256 / 256 % 256)
      ≡ sets l at (little_bytes 4 n)
  unfolding little_bytes
  four_stored =
      let two_more : at + 2 ≡ suc (suc at) = omega arith in
      let three_more : at + 3 ≡ suc (suc (suc at)) = omega arith in
      rw (one_more, two_more, three_more)
