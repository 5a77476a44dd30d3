-- `step_at` meets its contract. Assumes nothing.
use Rattle.std.proofs.Common.{rules}
use mathlib.Core.Path.{sym, ◌∙◌}
use borrow.Author.Tests.{lt-ltb, le-ltb}
use Rattle.smf.specs.Events.{step_at}
use Rattle.smf.proofs.events.step_at.Goals as goal

pub returns-then-end-at : goal.returns-then-end-at
unfolding step_at
returns-then-end-at c = simp (le-ltb _ _ c.if-end-at.true)

pub returns-in_err-delta : goal.returns-in_err-delta
unfolding step_at
returns-in_err-delta c = simp (lt-ltb _ _ c.if-end-at.false, sym c.quantity_at.ensures ∙ c.in_err-delta.was) (search rules)

pub returns-in_err-next : goal.returns-in_err-next
unfolding step_at
returns-in_err-next c = simp (lt-ltb _ _ c.if-end-at.false, sym c.quantity_at.ensures ∙ c.in_ok-delta.was, sym c.event_at.ensures ∙ c.in_err-next.was) (search rules)

pub returns-in-End : goal.returns-in-End
unfolding step_at
returns-in-End c = simp (lt-ltb _ _ c.if-end-at.false, sym c.quantity_at.ensures ∙ c.in_ok-delta.was, sym c.event_at.ensures ∙ c.in_ok-next.was, c.in-End.is)

pub returns-in-Is : goal.returns-in-Is
unfolding step_at
returns-in-Is c = simp (lt-ltb _ _ c.if-end-at.false, sym c.quantity_at.ensures ∙ c.in_ok-delta.was, sym c.event_at.ensures ∙ c.in_ok-next.was, c.in-Is.is)
