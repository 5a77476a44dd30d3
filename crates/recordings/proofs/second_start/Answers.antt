-- `second_start` meets its contract: of two channels the second's recording is in its part. Assumes nothing.
use Rattle.std.proofs.Common.{refl, rules, ne_eqb}
use Rattle.recordings.proofs.Sights.{second_small}
use Rattle.recordings.proofs.second_start.Goals as goal

pub overflow_add-result : goal.overflow_add-result
overflow_add-result c =
    let small = second_small _ c.requires c.if-t-eq2.true in
    search rules

pub returns-then-t-eq2 : goal.returns-then-t-eq2
returns-then-t-eq2 c = rw c.if-t-eq2.true refl

pub returns : goal.returns
returns c = rw (ne_eqb _ 2 c.if-t-eq2.false) refl
