-- A question whose answer goes to a lent list: what its rows say where they are passed, and the error text, whose writer tells whether it fits. Assumes nothing.
use mathlib.Core.Path.{◌≡◌, refl, ap}
use mathlib.Core.Bool.{Bool, true, false, true≢false}
use mathlib.Core.List.{List}
use Prim.Native.Nat.{ℕ}
use borrow.Author.Tests.{leb-true, leb-false, le-ltb, lt-ltb}
use lib.Dec.{leb, ltb}
use lib.ListN.{length}
use Rattle.std.specs.Prelude.{Result, Ok, is_ok}
use Rattle.refusals.specs.declared.Refusal.{Refusal}
use Rattle.refusals.specs.declared.Refusal.TheVariants.{NoChannel, ShortList, Broken}
use Rattle.refusals.specs.Refusals.{row}
use Rattle.refusals.proofs.Codes.{open_row}
use Rattle.recorder.specs.declared.Recorder.{Recorder}
use Rattle.recorder.specs.ErrorText.{error_text, print_error_info_of, text_after}
use Rattle.recorder.proofs.ErrorTexts.{text_fits, text_too_long}
use Rattle.questions.specs.Questions.{list_after_by}

-- the rows that each question begins with: where they are passed, neither test holds
pub rows_open : (a b : Bool) → ◌≡◌ {A = Result (Unit {0}) Refusal} (Ok tt) (row a Broken (row b NoChannel (Ok tt))) → (a ≡ false) × (b ≡ false)
rows_open true b h = absurd (true≢false (ap is_ok h))
rows_open false b h = (refl, open_row b NoChannel (Ok tt) tt h)

-- the error text: it is refused where the list is shorter
module _ (r : Recorder) (text : List ℕ) where
  pub text_answered : print_error_info_of r (length text) ≡ row (ltb (length text) (length (error_text r))) ShortList (Ok (length (error_text r)))
  text_answered = go (leb (length (error_text r)) (length text)) refl
    where
      go : (b : Bool) → leb (length (error_text r)) (length text) ≡ b
          → print_error_info_of r (length text) ≡ row (ltb (length text) (length (error_text r))) ShortList (Ok (length (error_text r)))
      go true e = simp ((text_fits r text (leb-true _ _ e)).0, le-ltb (length text) (length (error_text r)) (leb-true _ _ e))
      go false e = simp ((text_too_long r text (leb-false _ _ e)).0, lt-ltb (length text) (length (error_text r)) (leb-false _ _ e))

  pub text_left : text_after r text ≡ list_after_by (error_text r) text (row (ltb (length text) (length (error_text r))) ShortList (Ok (length (error_text r))))
  text_left = go (leb (length (error_text r)) (length text)) refl
    where
      go : (b : Bool) → leb (length (error_text r)) (length text) ≡ b
          → text_after r text ≡ list_after_by (error_text r) text (row (ltb (length text) (length (error_text r))) ShortList (Ok (length (error_text r))))
      go true e = simp ((text_fits r text (leb-true _ _ e)).1, le-ltb (length text) (length (error_text r)) (leb-true _ _ e))
      go false e = simp ((text_too_long r text (leb-false _ _ e)).1, lt-ltb (length text) (length (error_text r)) (leb-false _ _ e))
