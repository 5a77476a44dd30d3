-- `later` meets its contract. Assumes nothing.
use native.Mathlib.Omega.{arith}
use Rattle.listing.specs.Steps.{later_by}
use Rattle.listing.proofs.later.Goals as goal

pub returns : goal.returns
unfolding later_by
returns c = omega (arith, c.saturating_add.ensures)
