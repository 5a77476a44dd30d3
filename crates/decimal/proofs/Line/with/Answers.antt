-- `Line::with` meets its contract: the text goes to the line's end where it fits. Assumes nothing.
use mathlib.Core.Path.{sym, ◌∙◌}
use borrow.Author.Tests.{leb-true, leb-false}
use Rattle.decimal.proofs.Lines.{with_more, with_none}
use Rattle.decimal.proofs.Line.with.Goals as goal

pub returns-then-has_room : goal.returns-then-has_room
returns-then-has_room c = simp (c.write_bytes-length.ensures.text_after, c.write_bytes-length.ensures.value)
    (sym (with_more c.args.self c.args.text.now (leb-true _ _ (sym c.has_room.ensures ∙ c.if-has_room.true))))

pub returns-else-has_room : goal.returns-else-has_room
returns-else-has_room c = sym (with_none c.args.self c.args.text.now (leb-false _ _ (sym c.has_room.ensures ∙ c.if-has_room.false)))
