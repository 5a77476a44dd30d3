-- Laws of outputs: what an output is, how long it is, and the line of a frame text by text. Assumes nothing.
use mathlib.Core.Path.{◌≡◌, sym, ap}
use mathlib.Core.Bool.{Bool, true, false, cond}
use mathlib.Core.List.{List, [], ◌∷◌, ◌++◌, append-nil, append_assoc}
use Prim.Native.Nat.{ℕ, ◌≤◌}
use lib.Dec.{lit≤}
use lib.ListN.{length}
use lib.Ieee.{Float, is_nan, ne}
use Rattle.binary32.specs.Leaves.{bits_of}
use Rattle.binary32.proofs.Nans.{is_nan_lem, no_nan}
use Rattle.decimal.specs.Decimal.{decimal}
use Rattle.decimal.specs.Lines.{bytes}
use Rattle.listing.specs.Lines.{hex_digits, output_text, outputs_of, space, newline, frame_line}

pub output_size : (x : Float) → length (output_text x) ≤ 8
unfolding output_text hex_digits bytes
output_size x = go (is_nan x)
  where
    go : (b : Bool) → length (cond b (bytes "NAN") (hex_digits 8 (bits_of x))) ≤ 8
    go true = lit≤ tt
    go false = lit≤ tt

pub output_nan : (x : Float) → ne x x ≡ true → bytes "NAN" ≡ output_text x
unfolding output_text is_nan
output_nan x h = rw (is_nan_lem x h)

pub output_digits : (x : Float) → ne x x ≡ false → hex_digits 8 (bits_of x) ≡ output_text x
unfolding output_text
output_digits x h = simp (no_nan x h)

-- what stands before the voice count, of one output and of two
abbrev pub one_output : ℕ → Float → List ℕ
one_output clock x = [] ++ bytes "F " ++ decimal clock ++ space ++ output_text x

abbrev pub two_outputs : ℕ → Float → Float → List ℕ
two_outputs clock x y = one_output clock x ++ space ++ output_text y

module _ (clock count : ℕ) (x y : Float) where
  pub one_line : one_output clock x ++ space ++ decimal count ++ newline ≡ frame_line clock (x ∷ []) count
  unfolding frame_line outputs_of
  one_line = simp (append-nil, append_assoc)

  pub two-line : two_outputs clock x y ++ space ++ decimal count ++ newline ≡ frame_line clock (x ∷ y ∷ []) count
  unfolding frame_line outputs_of
  two-line =
      simp (append-nil, append_assoc)
      (ap (λ (l : List ℕ). bytes "F " ++ (decimal clock ++ (space ++ l))) (sym (append_assoc (output_text x) (space ++ output_text y) (space ++ (decimal count ++ newline)))))
