-- Laws of the error text: how long it is, and what the call that writes it does where it fits and where it doesn't.
-- Assumes nothing.
use mathlib.Core.Path.{◌≡◌, refl, ap, ◌∙◌}
use mathlib.Core.Bool.{Bool, true, false, cond}
use mathlib.Core.List.{List, ◌++◌}
use Prim.Native.Nat.{ℕ, ◌+◌, ◌≤◌, ◌<◌}
use native.Mathlib.Omega.{arith}
use lib.Dec.{ltb, leb}
use lib.ListN.{length, drop, length-append}
use borrow.Author.Tests.{le-leb, lt-leb, leb-true, leb-false, le-ltb, lt-ltb}
use Rattle.decimal.specs.Decimal.{decimal}
use Rattle.decimal.specs.declared.Line.{Line}
use Rattle.decimal.specs.Lines.{bytes, line_of, text_of, printed_of}
use Rattle.recorder.specs.ErrorText.{error_text, print_error_info_of, text_after}
use Rattle.recorder.specs.declared.Recorder.{Recorder}
use Rattle.std.specs.Prelude.{Ok, Err}
use Rattle.refusals.specs.Refusals.{code_of}
use Rattle.refusals.specs.declared.Refusal.TheVariants.{ShortList}
use Rattle.decimal.proofs.Decimals.{decimal_short}
use Rattle.decimal.proofs.Lines.{line_text}

module _ (r : Recorder) where
  pub text_length : length (error_text r) ≡ 21 + length (decimal r.skipped_samples) + length (decimal r.incorrect_state)
  unfolding error_text bytes
  text_length = simp length-append (omega arith)

  -- with counts of 32 bits the text is at most 41 bytes long
  pub text_bound : r.skipped_samples ≤ 4294967295 → r.incorrect_state ≤ 4294967295 → length (error_text r) ≤ 41
  text_bound s i = omega (arith, text_length, decimal_short 9 r.skipped_samples (omega arith), decimal_short 9 r.incorrect_state (omega arith))

  -- the text of a line that is made of the error text
  pub text_is : (l : Line) → l ≡ line_of (error_text r) → r.skipped_samples ≤ 4294967295 → r.incorrect_state ≤ 4294967295 → text_of l ≡ error_text r
  text_is l e s i = ap text_of e ∙ line_text (error_text r) (omega (arith, text_bound s i))

  -- 8 exactly where the list is shorter than the text, otherwise 0
  pub text_number_lem : (room : ℕ) → code_of (print_error_info_of r room) ≡ cond (ltb room (length (error_text r))) 8 0
  unfolding print_error_info_of
  text_number_lem room = go (leb (length (error_text r)) room) refl
    where
      go : (b : Bool) → leb (length (error_text r)) room ≡ b → code_of (print_error_info_of r room) ≡ cond (ltb room (length (error_text r))) 8 0
      go true e = simp (e, le-ltb room (length (error_text r)) (leb-true _ _ e))
      go false e = simp (e, lt-ltb room (length (error_text r)) (leb-false _ _ e))

  module _ (text : List ℕ) where
    pub text_fits : length (error_text r) ≤ length text
        → (print_error_info_of r (length text) ≡ Ok (length (error_text r))) × (text_after r text ≡ error_text r ++ drop (length (error_text r)) text)
    unfolding print_error_info_of text_after printed_of
    text_fits h = (simp (le-leb _ _ h), simp (le-leb _ _ h))

    pub text_too_long : length text < length (error_text r) → (print_error_info_of r (length text) ≡ Err ShortList) × (text_after r text ≡ text)
    unfolding print_error_info_of text_after printed_of
    text_too_long h = (simp (lt-leb _ _ h), simp (lt-leb _ _ h))
