-- `record_fault` meets its contract. Assumes nothing.
use mathlib.Core.Path.{◌∙◌}
use borrow.Author.Tests.{lt-ltb, le-ltb, eq-eqb, ne_eqb}
use Rattle.listing.specs.Faults.{record_fault_of}
use Rattle.listing.proofs.faults.record_fault.Goals as goal

pub returns-then-n-lt2 : goal.returns-then-n-lt2
unfolding record_fault_of
returns-then-n-lt2 c = simp (lt-ltb _ _ c.if-n-lt2.true)

pub returns-then-size-eq0 : goal.returns-then-size-eq0
unfolding record_fault_of
returns-then-size-eq0 c = simp (le-ltb _ _ c.if-n-lt2.false, ← c.half_at-size.ensures.value, c.if-size-eq0.true)

pub returns-then-size-gt45 : goal.returns-then-size-gt45
unfolding record_fault_of
returns-then-size-gt45 c = simp (le-ltb _ _ c.if-n-lt2.false, ← c.half_at-size.ensures.value, ne_eqb _ _ c.if-size-eq0.false, lt-ltb _ _ c.if-size-gt45.true)

pub returns-then-n-size : goal.returns-then-n-size
unfolding record_fault_of
returns-then-n-size c = simp (le-ltb _ _ c.if-n-lt2.false, ← c.half_at-size.ensures.value, ne_eqb _ _ c.if-size-eq0.false, le-ltb _ _ c.if-size-gt45.false, ne_eqb _ _ c.if-n-size.true)

pub returns : goal.returns
unfolding record_fault_of
returns c = c.kind_fault.ensures ∙ simp (le-ltb _ _ c.if-n-lt2.false, ← c.half_at-size.ensures.value, ne_eqb _ _ c.if-size-eq0.false, le-ltb _ _ c.if-size-gt45.false, eq-eqb _ _ c.if-n-size.false)
