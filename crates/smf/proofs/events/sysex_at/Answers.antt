-- `sysex_at` meets its contract. Assumes nothing.
use Rattle.std.proofs.Common.{rules}
use mathlib.Core.Path.{sym, ◌∙◌}
use native.Mathlib.Omega.{arith}
use borrow.Author.Tests.{le-leb, lt-leb}
use Rattle.smf.specs.Events.{sysex_at}
use Rattle.smf.proofs.Inside.{quantity_ends}
use Rattle.smf.proofs.events.sysex_at.Goals as goal

pub overflow_sub-end : goal.overflow_sub-end
overflow_sub-end c = omega (arith, quantity_ends _ _ _ _ _ (sym c.quantity_at.ensures ∙ c.in_ok-value.was))

pub returns-then-end-next : goal.returns-then-end-next
unfolding sysex_at
returns-then-end-next c = simp (sym c.quantity_at.ensures ∙ c.in_ok-value.was, lt-leb _ _ c.if-end-next.true)

pub returns-in_err-value : goal.returns-in_err-value
unfolding sysex_at
returns-in_err-value c = simp (sym c.quantity_at.ensures ∙ c.in_err-value.was) (search rules)

pub returns : goal.returns
unfolding sysex_at
returns c = simp (sym c.quantity_at.ensures ∙ c.in_ok-value.was, le-leb _ _ c.if-end-next.false)
