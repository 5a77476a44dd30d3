-- `rest` meets its contract: below the divisor x is its own remainder, and else that of what is left after it. Assumes nothing.
use mathlib.Core.Path.{sym, ◌∙◌}
use native.Mathlib.Nat.{mod-eq_of_lt, mod-eq-sub-mod}
use Rattle.pours.proofs.rest.Goals as goal

pub returns-then-x-by : goal.returns-then-x-by
returns-then-x-by c = sym (mod-eq_of_lt c.if-x-by.true)

pub returns-then-y-by : goal.returns-then-y-by
returns-then-y-by c = sym (mod-eq-sub-mod c.if-x-by.false ∙ mod-eq_of_lt c.if-y-by.true)

pub returns-else-y-by : goal.returns-else-y-by
returns-else-y-by c = sym (mod-eq-sub-mod c.if-x-by.false)
