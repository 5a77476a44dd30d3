-- `rest` meets its contract. Assumes nothing.
use borrow.Author.Tests.{ne_eqb, le-leb, lt-leb}
use native.Mathlib.Omega.{arith}
use Rattle.listing.specs.Records.{to_read}
use Rattle.listing.proofs.records.rest.Goals as goal

pub returns-then-bytes-ne2 : goal.returns-then-bytes-ne2
unfolding to_read
returns-then-bytes-ne2 c = record { value = simp (ne_eqb _ _ c.if-bytes-ne2.true); upper_bound = omega arith }

pub returns-then-size-le45 : goal.returns-then-size-le45
unfolding to_read
returns-then-size-le45 c = record { value = simp (← c.half_at-size.ensures.value, c.if-bytes-ne2.false, le-leb _ _ c.if-size-le45.true); upper_bound = omega arith }

pub returns-else-size-le45 : goal.returns-else-size-le45
unfolding to_read
returns-else-size-le45 c = record { value = simp (← c.half_at-size.ensures.value, c.if-bytes-ne2.false, lt-leb _ _ c.if-size-le45.false); upper_bound = omega arith }
