-- `second_in` meets its contract. Assumes nothing.
use Rattle.std.proofs.Common.{refl, eq-eqb, ne_eqb}
use Rattle.recordings.proofs.second_in.Goals as goal

pub returns-then-seen-eq2 : goal.returns-then-seen-eq2
returns-then-seen-eq2 c =
    simp (c.wrapping_add_usize.ensures.value, c.begins.ensures, eq-eqb _ _ c.if-seen-eq2.true)

pub returns : goal.returns
returns c = rw (ne_eqb _ 2 c.if-seen-eq2.false) refl
