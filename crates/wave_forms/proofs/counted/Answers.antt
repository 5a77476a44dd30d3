-- `counted` meets its contract. Assumes nothing.
use mathlib.Core.Path.{sym}
use native.Mathlib.Omega.{arith}
use Rattle.wave_forms.proofs.Judgements.{counted_uneven, counted_many, counted_is}
use Rattle.wave_forms.proofs.counted.Goals as goal

pub returns-then-size-o-ne0 : goal.returns-then-size-o-ne0
returns-then-size-o-ne0 c = sym (counted_uneven _ _ _ c.if-size-o-ne0.true)

pub returns-then-count-gt1073741811 : goal.returns-then-count-gt1073741811
returns-then-count-gt1073741811 c = sym (counted_many _ _ _ c.if-size-o-ne0.false (omega arith))

pub returns : goal.returns
returns c = sym (counted_is _ _ _ c.if-size-o-ne0.false (omega arith))
