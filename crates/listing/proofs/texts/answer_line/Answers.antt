-- `answer_line` meets its contract: five texts, one after the other. Assumes nothing.
use native.Mathlib.Omega.{arith}
use lib.Dec.{lit≤}
use Rattle.decimal.specs.Decimal.{decimal}
use Rattle.decimal.specs.Lines.{bytes}
use Rattle.decimal.proofs.Decimals.{decimal_short}
use Rattle.decimal.proofs.Lines.{built_none, built_on}
use Rattle.listing.specs.Lines.{answer_line, space, newline}
use Rattle.listing.proofs.texts.answer_line.Goals as goal

pub returns : goal.returns
unfolding answer_line bytes
returns c = let a = c.args in
    let b₁ = built_on (built_none c.new.ensures) (bytes "E ") 2 c.with.ensures (lit≤ tt) (lit≤ tt) in
    let b₂ = built_on b₁ (decimal a.kind) 3 c.with_decimal-kinded.ensures (decimal_short 2 a.kind (omega arith)) (lit≤ tt) in
    let b₃ = built_on b₂ space 1 c.with-2.ensures (lit≤ tt) (lit≤ tt) in
    let b₄ = built_on b₃ (decimal a.number) 3 c.with_decimal.ensures (decimal_short 2 a.number (omega arith)) (lit≤ tt) in
    (built_on b₄ newline 1 c.with-3.ensures (lit≤ tt) (lit≤ tt)).is
