-- Laws of parts of a list: a tail, a text that is put behind another, bytes that are moved to the front. Assumes nothing.
use mathlib.Core.Path.{◌≡◌, sym, ap, ◌∙◌}
use mathlib.Core.List.{List, [], ◌∷◌, ◌++◌, append_assoc}
use Prim.Native.Nat.{ℕ, ◌+◌, ◌-◌, ◌≤◌, ◌<◌, min}
use native.Mathlib.Nat.{add_comm}
use native.Mathlib.Numerals.{add-one}
use native.Mathlib.Omega.{arith}
use borrow.Author.Tests.{ne_eqb}
use lib.ListN.{length, take, drop, get_or, set, length-take, length-drop}
use lib.Seq.{
  length-take-le,
  take_all,
  take-suc,
  take-append_seam,
  take-append-add,
  take-suc-set,
  drop-set-lt,
  drop-drop,
  drop_at,
  get_or-drop,
  take-add,
}
use Rattle.decimal.specs.declared.Line.{Line}
use Rattle.decimal.specs.Lines.{text_of, printed_of}
use Rattle.decimal.proofs.Lines.{prints, text_length}
use Rattle.listing.specs.Records.{to_read}

-- all from a place on
pub tail-is : (a : ℕ) (l : List ℕ) → take (length l - a) (drop a l) ≡ drop a l
tail-is a l = take_all (length l - a) (drop a l) (omega (arith, length-drop a l))

-- where the two bytes of a length aren't there it says nothing
pub no_rest : (w : List ℕ) → length w < 2 → 2 ≡ 2 + to_read (take 2 w)
unfolding to_read
no_rest w h = simp (ne_eqb (length (take 2 w)) 2 (λ e. absurd (omega (arith, length-take 2 w))))

module _ (line : Line) (out last : List ℕ) (at : ℕ) (whole : length line.bytes ≡ 64) (room : at + 64 ≤ length out)
    (is : last ≡ printed_of (text_of line) (take (length out - at) (drop at out))) where
  -- a line behind the text
  pub put_is : (r : ℕ) → r ≡ at + min line.length 64
      → take r (take at out ++ (last ++ drop (length out - at) (drop at out))) ≡ take at out ++ text_of line
  put_is r e =
      let text = text_of line in
      let tail = take (length out - at) (drop at out) in
      let rest = drop (length out - at) (drop at out) in
      let size : length text ≡ min line.length 64 = text_length line whole in
      let before : length (take at out) ≡ at = length-take-le at out (omega arith) in
      let long : length text ≤ length tail = omega (arith, ap length (tail-is at out), length-drop at out) in
      let written : last ≡ text ++ drop (length text) tail = is ∙ prints text tail long in
      ap (λ (n : ℕ). take n (take at out ++ (last ++ rest))) (let k : r ≡ length (take at out) + length text = omega arith in k)
      ∙ take-append-add (take at out) (last ++ rest) (length text)
      ∙ ap (λ (l : List ℕ). take at out ++ take (length text) (l ++ rest)) written
      ∙ ap (λ (l : List ℕ). take at out ++ take (length text) l) (append_assoc text (drop (length text) tail) rest)
      ∙ ap (λ (l : List ℕ). take at out ++ l) (take-append_seam text (drop (length text) tail ++ rest))

-- ---- bytes moved to the front, one at a time
module _ (l l₀ : List ℕ) (used i : ℕ) (room : used + i < length l₀) (same : length l ≡ length l₀) (passed : take i l ≡ take i (drop used l₀))
    (ahead : drop i l ≡ drop i l₀) where
  moved_byte : get_or l (used + i) 0 ≡ get_or (drop used l₀) i 0
  moved_byte =
      ap (λ (n : ℕ). get_or l n 0) (add_comm used i)
      ∙ sym (get_or-drop i l used 0)
      ∙ ap (λ (k : List ℕ). get_or k used 0) ahead
      ∙ get_or-drop i l₀ used 0
      ∙ ap (λ (n : ℕ). get_or l₀ n 0) (add_comm i used)
      ∙ sym (get_or-drop used l₀ i 0)

  pub moved_front : take (i + 1) (set l i (get_or l (used + i) 0)) ≡ take (i + 1) (drop used l₀)
  moved_front =
      ap (λ (n : ℕ). take n (set l i (get_or l (used + i) 0))) (add-one i)
      ∙ take-suc-set l i (get_or l (used + i) 0) (omega arith)
      ∙ ap (λ (k : List ℕ). k ++ (get_or l (used + i) 0 ∷ [])) passed
      ∙ ap (λ (x : ℕ). take i (drop used l₀) ++ (x ∷ [])) moved_byte
      ∙ sym (take-suc (drop used l₀) i 0 (omega (arith, length-drop used l₀)))
      ∙ ap (λ (n : ℕ). take n (drop used l₀)) (sym (add-one i))

  pub moved_ahead : drop (i + 1) (set l i (get_or l (used + i) 0)) ≡ drop (i + 1) l₀
  moved_ahead =
      drop-set-lt (i + 1) l i (get_or l (used + i) 0) (omega arith)
      ∙ sym (drop-drop 1 i l)
      ∙ ap (drop 1) ahead
      ∙ drop-drop 1 i l₀

pub front_left : (used have : ℕ) (l : List ℕ) → used ≤ have → have ≤ length l → drop used (take have l) ≡ take (have - used) (drop used l)
front_left used have l h k =
    ap (λ (n : ℕ). drop used (take n l)) (let e : have ≡ used + (have - used) = omega arith in e)
    ∙ ap (drop used) (take-add used (have - used) l)
    ∙ drop_at (take used l) (take (have - used) (drop used l)) used (length-take-le used l (omega arith))
