-- `meta_at` meets its contract. Assumes nothing.
use Rattle.std.proofs.lemmas.Grind.{common_steps}
use mathlib.Core.Path.{sym, ◌∙◌}
use native.Mathlib.Omega.{arith}
use borrow.Author.Tests.{lt-ltb, le-ltb}
use Rattle.smf.specs.Events.{meta_at}
use Rattle.smf.proofs.Inside.{quantity_ends}
use Rattle.smf.proofs.events.meta_at.Goals as goal

pub returns-then-end-at : goal.returns-then-end-at
unfolding meta_at
returns-then-end-at c = simp (le-ltb _ _ c.if-end-at.true)

pub returns-then-kind-ge128 : goal.returns-then-kind-ge128
unfolding meta_at
returns-then-kind-ge128 c = simp (lt-ltb _ _ c.if-end-at.false, ← c.byte_at-kind.ensures, le-ltb _ _ c.if-kind-ge128.true)

pub meta_body-requires : goal.meta_body-requires
meta_body-requires c = let h = quantity_ends _ _ _ _ _ (sym c.quantity_at.ensures ∙ c.in_ok-value.was) in omega (arith, h)

pub returns-in_err-value : goal.returns-in_err-value
unfolding meta_at
returns-in_err-value c = grind (arith, common_steps)

pub returns : goal.returns
unfolding meta_at
returns c = simp (lt-ltb _ _ c.if-end-at.false, ← c.byte_at-kind.ensures, lt-ltb _ _ c.if-kind-ge128.false, sym c.quantity_at.ensures ∙ c.in_ok-value.was, c.meta_body.ensures)
