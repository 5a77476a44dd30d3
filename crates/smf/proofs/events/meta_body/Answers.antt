-- `meta_body` meets its contract. Assumes nothing.
use borrow.Author.Tests.{eq-eqb, ne_eqb, le-leb, lt-leb}
use Rattle.smf.specs.Events.{meta_of}
use Rattle.smf.proofs.events.meta_body.Goals as goal

pub returns-then-kind-eq81 : goal.returns-then-kind-eq81
unfolding meta_of
returns-then-kind-eq81 c = simp (eq-eqb _ _ c.if-kind-eq81.true, c.tempo_body.ensures)

pub returns-then-end-at : goal.returns-then-end-at
unfolding meta_of
returns-then-end-at c = simp (ne_eqb _ _ c.if-kind-eq81.false, lt-leb _ _ c.if-end-at.true)

pub returns-then-kind-eq47 : goal.returns-then-kind-eq47
unfolding meta_of
returns-then-kind-eq47 c = simp (ne_eqb _ _ c.if-kind-eq81.false, le-leb _ _ c.if-end-at.false, eq-eqb _ _ c.if-kind-eq47.true)

pub returns : goal.returns
unfolding meta_of
returns c = simp (ne_eqb _ _ c.if-kind-eq81.false, le-leb _ _ c.if-end-at.false, ne_eqb _ _ c.if-kind-eq47.false)
