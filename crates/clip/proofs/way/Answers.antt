-- `way` meets its contract: up to 2 ^ 24 by the sum of two whole numbers' floats. Assumes nothing.
use mathlib.Core.Path.{sym, ap₂, ◌∙◌}
use native.Mathlib.Omega.{arith}
use mathlib.Core.Bool.{true, false}
use borrow.Author.Tests.{lt-ltb, le-ltb}
use lib.Ieee.{Float, binary32, add}
use borrow.Author.Rules.{rules}
use Rattle.binary32.proofs.Halves.{castable}
use Rattle.binary32.proofs.BelowZero.{below_bits}
use Rattle.clip.proofs.Quick.{lead_added}
use Rattle.clip.proofs.way.Goals as goal

pub int_to_float-result : goal.int_to_float-result
int_to_float-result c = castable binary32 _ (omega (arith, c.if-elapsed-lt16777216.true))

pub int_to_float-result-else-speed-gt2147483648 : goal.int_to_float-result-else-speed-gt2147483648
int_to_float-result-else-speed-gt2147483648 c = castable binary32 _ (omega (arith, c.if-elapsed-lt16777216.true))

pub returns-then-speed-gt2147483648 : goal.returns-then-speed-gt2147483648
returns-then-speed-gt2147483648 c =
    let a = c.args in
    sym (lead_added a.elapsed a.speed true (sym (below_bits a.speed (search rules) (search rules)) ∙ lt-ltb _ _ c.if-speed-gt2147483648.true) c.if-elapsed-lt16777216.true)

pub returns-else-speed-gt2147483648 : goal.returns-else-speed-gt2147483648
returns-else-speed-gt2147483648 c =
    let a = c.args in
    sym (lead_added a.elapsed a.speed false (sym (below_bits a.speed (search rules) (search rules)) ∙ le-ltb _ _ c.if-speed-gt2147483648.false) c.if-elapsed-lt16777216.true)

pub returns-else-elapsed-lt16777216 : goal.returns-else-elapsed-lt16777216
returns-else-elapsed-lt16777216 c = ap₂ (λ (x y : Float). add binary32 x y) c.usize_to_f32.ensures c.lead.ensures
