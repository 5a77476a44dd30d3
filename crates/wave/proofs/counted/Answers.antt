-- `counted` meets its contract. Assumes nothing.
use mathlib.Core.Path.{sym, ◌∙◌}
use Rattle.wave.proofs.Judgements.{counted_uneven, counted_other, counted_is}
use Rattle.wave.proofs.counted.Goals as goal

pub returns-then-size-block-ne0 : goal.returns-then-size-block-ne0
returns-then-size-block-ne0 c = sym (counted_uneven _ _ _ _ c.if-size-block-ne0.true)

pub returns-then-good_fact : goal.returns-then-good_fact
returns-then-good_fact c = simp (c.four_at.ensures, c.two_at.ensures.value) (sym (counted_is _ _ _ _ c.if-size-block-ne0.false (sym c.good_fact.ensures ∙ c.if-good_fact.true)))

pub returns-else-good_fact : goal.returns-else-good_fact
returns-else-good_fact c = sym (counted_other _ _ _ _ c.if-size-block-ne0.false (sym c.good_fact.ensures ∙ c.if-good_fact.false))
