-- `channel_at` meets its contract. Assumes nothing.
use Rattle.std.proofs.Common.{rules}
use mathlib.Core.Path.{sym, ◌∙◌}
use native.Mathlib.Omega.{arith}
use Rattle.smf.specs.Events.{channel_event}
use Rattle.smf.proofs.Inside.{seen}
use Rattle.smf.proofs.events.channel_at.Goals as goal

pub overflow_add-result : goal.overflow_add-result
overflow_add-result c = omega (arith, seen _ _ _ _ (sym c.data_at.ensures ∙ c.in_ok-first.was))

pub returns-then-one_byte : goal.returns-then-one_byte
unfolding channel_event
returns-then-one_byte c = simp (sym c.data_at.ensures ∙ c.in_ok-first.was, sym c.one_byte.ensures ∙ c.if-one_byte.true)

pub overflow_add-at : goal.overflow_add-at
overflow_add-at c = omega (arith, seen _ _ _ _ (sym c.data_at.ensures ∙ c.in_ok-first.was))

pub overflow_add-result-2 : goal.overflow_add-result-2
overflow_add-result-2 c = omega (arith, seen _ _ _ _ (sym c.data_at-2.ensures ∙ c.in_ok-second.was))

pub returns-in_err-first : goal.returns-in_err-first
unfolding channel_event
returns-in_err-first c = search rules

pub returns-in_err-second : goal.returns-in_err-second
unfolding channel_event
returns-in_err-second c = simp (sym c.data_at.ensures ∙ c.in_ok-first.was, sym c.one_byte.ensures ∙ c.if-one_byte.false, sym c.data_at-2.ensures ∙ c.in_err-second.was) (search rules)

pub returns : goal.returns
unfolding channel_event
returns c = simp (sym c.data_at.ensures ∙ c.in_ok-first.was, sym c.one_byte.ensures ∙ c.if-one_byte.false, sym c.data_at-2.ensures ∙ c.in_ok-second.was, c.message.ensures)
