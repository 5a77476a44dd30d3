-- `print_error_info` meets its contract: the line's text is the error text. Assumes nothing.
use mathlib.Core.Path.{sym, ap, ◌∙◌}
use native.Mathlib.Omega.{arith}
use lib.ListN.{length}
use Rattle.decimal.specs.declared.Line.{Line}
use Rattle.decimal.specs.Lines.{line_of}
use Rattle.std.specs.Prelude.{Ok}
use Rattle.recorder.specs.ErrorText.{print_error_info_of, text_after}
use Rattle.recorder.proofs.ErrorTexts.{text_is}
use borrow.Author.Rules.{rules}
use Rattle.recorder.proofs.Recorder.print_error_info.Goals as goal

pub returns-then-print : goal.returns-then-print
unfolding print_error_info_of text_after line_of
returns-then-print c = let text = text_is c.args.self _ c.error_text-line.ensures (omega arith) (omega arith) in
    let size = ap (λ (l : Line). l.length) c.error_text-line.ensures ∙ ap length (sym text) in
    record { value = simp (← text, ← c.print.ensures.value, c.if-print.true) (ap Ok size); text_after = c.print.ensures.lent_after ∙ rw text }

pub returns-else-print : goal.returns-else-print
unfolding print_error_info_of text_after
returns-else-print c = let text = text_is c.args.self _ c.error_text-line.ensures (omega arith) (omega arith) in
    record { value = simp (← text, ← c.print.ensures.value, c.if-print.false); text_after = c.print.ensures.lent_after ∙ rw text }
