-- `bad_line` meets its contract: three texts, one after the other. Assumes nothing.
use native.Mathlib.Omega.{arith}
use lib.Dec.{lit≤}
use Rattle.decimal.specs.Decimal.{decimal}
use Rattle.decimal.specs.Lines.{bytes}
use Rattle.decimal.proofs.Decimals.{decimal_short}
use Rattle.decimal.proofs.Lines.{built_none, built_on}
use Rattle.listing.specs.Lines.{bad_line, newline}
use Rattle.listing.proofs.texts.bad_line.Goals as goal

pub returns : goal.returns
unfolding bad_line bytes
returns c = let offset = c.args.offset in
    let b₁ = built_on (built_none c.new.ensures) (bytes "X ") 2 c.with.ensures (lit≤ tt) (lit≤ tt) in
    let b₂ = built_on b₁ (decimal offset) 20 c.with_decimal.ensures (decimal_short 19 offset (omega arith)) (lit≤ tt) in
    (built_on b₂ newline 1 c.with-2.ensures (lit≤ tt) (lit≤ tt)).is
