-- The error text: the counts in decimal among fixed bytes, and what the call that writes it does to a lent list.
-- Assumes nothing.
use Rattle.std.specs.Prelude.{cond, List, ◌++◌, ℕ, leb, length, Result, Ok, Err}
use Rattle.decimal.specs.Decimal.{decimal}
use Rattle.decimal.specs.Lines.{bytes, printed_of}
use Rattle.refusals.specs.declared.Refusal.{Refusal}
use Rattle.refusals.specs.declared.Refusal.TheVariants.{ShortList}
use Rattle.recorder.specs.declared.Recorder.{Recorder}

-- of a recorder without errors `skip: 0, neg: 0, inc: 0`
unfoldable pub error_text : Recorder → List ℕ
error_text r = bytes "skip: " ++ decimal r.skipped_samples ++ bytes ", neg: 0, inc: "
    ++ decimal r.incorrect_state

-- how many bytes are written to a list of so many, or that it is too short
unfoldable pub print_error_info_of : Recorder → ℕ → Result ℕ Refusal
print_error_info_of r room = cond (leb (length (error_text r)) room) (Ok (length (error_text r)))
    (Err ShortList)

-- the lent list afterwards: it keeps what stood past the text, or all if it is too short
unfoldable pub text_after : Recorder → List ℕ → List ℕ
text_after r text = printed_of (error_text r) text
