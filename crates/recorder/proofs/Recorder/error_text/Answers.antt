-- `error_text` meets its contract: four texts, one after the other, of at most 41 bytes together. Assumes nothing.
use native.Mathlib.Omega.{arith}
use lib.Dec.{lit≤}
use Rattle.decimal.specs.Decimal.{decimal}
use Rattle.decimal.specs.Lines.{bytes}
use Rattle.decimal.proofs.Decimals.{decimal_short}
use Rattle.decimal.proofs.Lines.{built_none, built_on}
use Rattle.recorder.specs.ErrorText.{error_text}
use borrow.Author.Rules.{rules}
use Rattle.recorder.proofs.Recorder.error_text.Goals as goal

pub returns : goal.returns
unfolding error_text bytes
returns c = let r = c.args.self in
    let b = built_none c.new.ensures in
    let b₁ = built_on b (bytes "skip: ") 6 c.with.ensures (lit≤ tt) (lit≤ tt) in
    let b₂ = built_on b₁ (decimal r.skipped_samples) 10 c.with_decimal.ensures (decimal_short 9 r.skipped_samples (omega arith)) (lit≤ tt) in
    let b₃ = built_on b₂ (bytes ", neg: 0, inc: ") 15 c.with-2.ensures (lit≤ tt) (lit≤ tt) in
    (built_on b₃ (decimal r.incorrect_state) 10 c.with_decimal-2.ensures (decimal_short 9 r.incorrect_state (omega arith)) (lit≤ tt)).is
