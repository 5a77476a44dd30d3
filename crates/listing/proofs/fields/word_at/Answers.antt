-- `word_at` meets its contract. Assumes nothing.
use mathlib.Core.Path.{◌≡◌}
use mathlib.Core.List.{List, [], ◌∷◌}
use Prim.Native.Nat.{ℕ, ◌+◌, ◌*◌}
use native.Mathlib.Omega.{arith}
use Rattle.octets.specs.Octets.{byte_at, number_after, number_of}
use Rattle.listing.specs.Records.{half_at, word_at}
use Rattle.listing.proofs.fields.word_at.Goals as goal

-- two halves make what their four bytes make
word-is : (r : List ℕ) (i : ℕ) → number_of (byte_at r i ∷ byte_at r (i + 1) ∷ byte_at r (i + 2) ∷ byte_at r (i + 3) ∷ []) ≡ word_at r i
unfolding word_at half_at number_of number_after
word-is r i = go (omega arith)
  where
    go : i + 2 + 1 ≡ i + 3
        → (((0 * 256 + byte_at r i) * 256 + byte_at r (i + 1)) * 256 + byte_at r (i + 2)) * 256 + byte_at r (i + 3)
        ≡ (byte_at r i * 256 + byte_at r (i + 1)) * 65536 + (byte_at r (i + 2) * 256 + byte_at r (i + 2 + 1))
    go last = rw last (omega arith)

pub returns : goal.returns
returns c =
    simp (c.of_four.ensures, c.byte_at-4.ensures, c.byte_at-3.ensures, c.byte_at-2.ensures, c.byte_at.ensures) (word-is _ _)
