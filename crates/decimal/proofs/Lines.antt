-- Laws of a line: a text that fits goes to its end, and what it prints is its text. Assumes nothing.
use mathlib.Core.Path.{◌≡◌, sym, ap, ◌∙◌}
use mathlib.Core.List.{List, [], ◌++◌}
use Prim.Native.Nat.{ℕ, ◌+◌, ◌≤◌, ◌<◌, min}
use native.Mathlib.Nat.{zero-add}
use native.Mathlib.Omega.{arith}
use borrow.Author.Tests.{le-leb, lt-leb}
use lib.ListN.{length, take, drop, replicate, length-append, length-take}
use lib.Seq.{sets, take-append_seam}
use Rattle.walks.proofs.Lists.Loops.{take_most}
use Rattle.walks.proofs.Lists.Runs.{run-append, run_front}
use Rattle.decimal.specs.declared.Line.{Line}
use Rattle.decimal.specs.Lines.{line_of, with_of, text_of, printed_of}

-- a text that fits
pub with_more : (l : Line) (text : List ℕ) → l.length + length text ≤ 64
    → with_of l text ≡ record { bytes = sets l.bytes l.length text; length = l.length + length text }
unfolding with_of
with_more l text h = simp (le-leb _ _ h)

-- one that doesn't
pub with_none : (l : Line) (text : List ℕ) → 64 < l.length + length text → with_of l text ≡ l
unfolding with_of
with_none l text h = simp (lt-leb _ _ h)

-- a line goes on where its text ends
pub line_on : (xs ys : List ℕ) → length xs + length ys ≤ 64 → with_of (line_of xs) ys ≡ line_of (xs ++ ys)
unfolding line_of
line_on xs ys h =
    with_more (line_of xs) ys h
    ∙ ap (λ (l : List ℕ). record { bytes = l; length = length xs + length ys }) (ap (λ (k : ℕ). sets (sets (replicate 64 0) 0 xs) k ys) (sym (zero-add (length xs))) ∙ run-append (replicate 64 0) xs ys 0)
    ∙ rw (← (length-append xs ys))

-- the text of a line is what it was made of
pub line_text : (xs : List ℕ) → length xs ≤ 64 → text_of (line_of xs) ≡ xs
unfolding line_of text_of
line_text xs h = ap (take (length xs)) (run_front (replicate 64 0) xs h) ∙ take-append_seam xs _

pub prints : (text lent : List ℕ) → length text ≤ length lent → printed_of text lent ≡ text ++ drop (length text) lent
unfolding printed_of
prints text lent h = simp (le-leb _ _ h)

pub prints_none : (text lent : List ℕ) → length lent < length text → printed_of text lent ≡ lent
unfolding printed_of
prints_none text lent h = simp (lt-leb _ _ h)

-- how long the text of a line is, and that it is the front of the bytes even where the length is past their end
pub text_length : (l : Line) → length l.bytes ≡ 64 → length (text_of l) ≡ min l.length 64
unfolding text_of
text_length l h = simp (length-take, h)

pub text_front : (l : Line) (n : ℕ) → length l.bytes ≡ 64 → n ≡ min l.length 64 → take n l.bytes ≡ text_of l
unfolding text_of
text_front l n h e = ap (λ (k : ℕ). take k l.bytes) e ∙ take_most l.bytes l.length 64 h

-- ---- a line that is built text by text, each of at most so many bytes
pub record Built (l : Line) (xs : List ℕ) (n : ℕ) : Type 0 where
  pub is : l ≡ line_of xs
  pub size : length xs ≤ n

pub built_none : {l : Line} → l ≡ line_of [] → Built l [] 0
built_none e = record { is = e; size = omega arith }

pub built_on : {l m : Line} {xs : List ℕ} {n : ℕ} → Built l xs n
    → (ys : List ℕ) (k : ℕ) → m ≡ with_of l ys → length ys ≤ k → n + k ≤ 64 → Built m (xs ++ ys) (n + k)
built_on {xs = xs} b ys k e h room = record {
  is = e ∙ rw b.is (line_on xs ys (omega (arith, b.size)));
  size = omega (arith, b.size, length-append xs ys);
}
