-- The line of a frame, as it is built: its clock and first output, a further output, and its voice count. Assumes nothing.
use mathlib.Core.Path.{◌≡◌, refl}
use mathlib.Core.List.{List, [], ◌++◌}
use Prim.Native.Nat.{ℕ, ◌+◌, ◌^◌, ◌≤◌, ◌<◌}
use native.Mathlib.Omega.{arith}
use lib.Dec.{lit≤}
use lib.Ieee.{Float}
use Rattle.decimal.specs.Decimal.{decimal}
use Rattle.decimal.specs.Lines.{bytes, line_of, with_of}
use Rattle.decimal.specs.declared.Line.{Line}
use Rattle.decimal.proofs.Decimals.{decimal_short}
use Rattle.decimal.proofs.Lines.{Built, built_none, built_on}
use Rattle.listing.specs.Lines.{output_text, space, newline}
use Rattle.listing.proofs.Outputs.{output_size, one_output}

-- an output after a space
pub printed_output : {l m : Line} {xs : List ℕ} {n : ℕ} → Built l xs n → (x : Float) → m ≡ with_of (with_of l space) (output_text x)
    → n + 1 + 8 ≤ 64 → Built m (xs ++ space ++ output_text x) (n + 1 + 8)
printed_output b x e room = built_on (built_on b space 1 refl (lit≤ tt) (omega arith)) (output_text x) 8 e (output_size x) room

-- up to the first output
pub printed_one : {l : Line} (clock : ℕ) (x : Float)
    → l ≡ with_of (with_of (with_of (with_of (line_of []) (bytes "F ")) (decimal clock)) space) (output_text x)
    → clock < 10 ^ 20 → Built l (one_output clock x) 31
unfolding bytes
printed_one clock x e h =
    let b₁ = built_on (built_none refl) (bytes "F ") 2 refl (lit≤ tt) (lit≤ tt) in
    let b₂ = built_on b₁ (decimal clock) 20 refl (decimal_short 19 clock h) (lit≤ tt) in
    printed_output b₂ x e (lit≤ tt)

-- the voice count and the line's end
pub printed_count : {l m : Line} {xs : List ℕ} {n : ℕ} → Built l xs n → (count : ℕ) → m ≡ with_of (with_of (with_of l space) (decimal count)) newline
    → count < 10 ^ 20 → n + 1 + 20 + 1 ≤ 64 → m ≡ line_of (xs ++ space ++ decimal count ++ newline)
printed_count b count e h room =
    let b₁ = built_on b space 1 refl (lit≤ tt) (omega arith) in
    let b₂ = built_on b₁ (decimal count) 20 refl (decimal_short 19 count h) (omega arith) in
    (built_on b₂ newline 1 e (lit≤ tt) room).is
