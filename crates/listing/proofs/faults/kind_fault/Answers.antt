-- `kind_fault` meets its contract. Assumes nothing.
use mathlib.Core.Path.{◌∙◌}
use borrow.Author.Tests.{lt-ltb, le-ltb, eq-eqb, ne_eqb}
use Rattle.listing.specs.Faults.{kind_fault_of}
use Rattle.listing.proofs.faults.kind_fault.Goals as goal

pub returns-then-kind-gt7 : goal.returns-then-kind-gt7
unfolding kind_fault_of
returns-then-kind-gt7 c = simp (← c.byte_at-kind.ensures, lt-ltb _ _ c.if-kind-gt7.true)

pub returns-then-has-asked : goal.returns-then-has-asked
unfolding kind_fault_of
returns-then-has-asked c = simp (← c.byte_at-kind.ensures, ← c.half_at-has.ensures.value, ← c.length_of-asked.ensures, le-ltb _ _ c.if-kind-gt7.false, ne_eqb _ _ c.if-has-asked.true)

pub returns-then-kind-eq0 : goal.returns-then-kind-eq0
unfolding kind_fault_of
returns-then-kind-eq0 c = c.settings_fault.ensures ∙ simp (← c.byte_at-kind.ensures, ← c.half_at-has.ensures.value, ← c.length_of-asked.ensures, le-ltb _ _ c.if-kind-gt7.false, eq-eqb _ _ c.if-has-asked.false, eq-eqb _ _ c.if-kind-eq0.true)

pub returns : goal.returns
unfolding kind_fault_of
returns c = simp (← c.byte_at-kind.ensures, ← c.half_at-has.ensures.value, ← c.length_of-asked.ensures, le-ltb _ _ c.if-kind-gt7.false, eq-eqb _ _ c.if-has-asked.false, ne_eqb _ _ c.if-kind-eq0.false)
