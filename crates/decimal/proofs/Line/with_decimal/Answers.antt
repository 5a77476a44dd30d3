-- `Line::with_decimal` meets its contract: the digits go to the line's end where they fit. Assumes nothing.
use mathlib.Core.Path.{sym, ◌∙◌}
use Prim.Native.Nat.{◌+◌}
use native.Mathlib.Omega.{arith}
use borrow.Author.Tests.{leb-true, leb-false}
use Rattle.decimal.specs.Decimal.{decimal}
use Rattle.decimal.proofs.Lines.{with_more, with_none}
use Rattle.decimal.proofs.Line.with_decimal.Goals as goal

pub returns-then-has_room : goal.returns-then-has_room
returns-then-has_room c = let room = leb-true (c.args.self.length + c.decimal_length.result) 64 (sym c.has_room.ensures ∙ c.if-has_room.true) in
    simp (c.write_decimal-length.ensures.text_after, c.write_decimal-length.ensures.value)
    (sym (with_more c.args.self (decimal c.args.n) (omega (arith, c.decimal_length.ensures))))

pub returns-else-has_room : goal.returns-else-has_room
returns-else-has_room c = let none = leb-false (c.args.self.length + c.decimal_length.result) 64 (sym c.has_room.ensures ∙ c.if-has_room.false) in
    sym (with_none c.args.self (decimal c.args.n) (omega (arith, c.decimal_length.ensures)))
