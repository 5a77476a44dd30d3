-- `meet` meets its contract. Assumes nothing.
use borrow.Author.Tests.{eq-eqb, ne_eqb}
use Rattle.wave.specs.Reader.{met_of}
use Rattle.wave.proofs.chunks.meet.Goals as goal

pub returns-then-p-ne0 : goal.returns-then-p-ne0
unfolding met_of
returns-then-p-ne0 c = simp (eq-eqb _ _ c.if-id-eq-FORMAT.true, ne_eqb _ _ c.if-p-ne0.true)

pub returns-then-id-eq-FORMAT : goal.returns-then-id-eq-FORMAT
unfolding met_of
returns-then-id-eq-FORMAT c = simp (eq-eqb _ _ c.if-id-eq-FORMAT.true, eq-eqb _ _ c.if-p-ne0.false)

pub returns-then-p-eq0 : goal.returns-then-p-eq0
unfolding met_of
returns-then-p-eq0 c = simp (ne_eqb _ _ c.if-id-eq-FORMAT.false, eq-eqb _ _ c.if-id-eq-DATA.true, eq-eqb _ _ c.if-p-eq0.true)

pub returns-then-p-ne0-2 : goal.returns-then-p-ne0-2
unfolding met_of
returns-then-p-ne0-2 c = simp (ne_eqb _ _ c.if-id-eq-FORMAT.false, eq-eqb _ _ c.if-id-eq-DATA.true, ne_eqb _ _ c.if-p-eq0.false, ne_eqb _ _ c.if-p-ne0-2.true)

pub returns-then-id-eq-DATA : goal.returns-then-id-eq-DATA
unfolding met_of
returns-then-id-eq-DATA c = simp (ne_eqb _ _ c.if-id-eq-FORMAT.false, eq-eqb _ _ c.if-id-eq-DATA.true, ne_eqb _ _ c.if-p-eq0.false, eq-eqb _ _ c.if-p-ne0-2.false)

pub returns-then-p-ne0-3 : goal.returns-then-p-ne0-3
unfolding met_of
returns-then-p-ne0-3 c = simp (ne_eqb _ _ c.if-id-eq-FORMAT.false, ne_eqb _ _ c.if-id-eq-DATA.false, eq-eqb _ _ c.if-id-eq-FACT.true, ne_eqb _ _ c.if-p-ne0-3.true)

pub returns-then-id-eq-FACT : goal.returns-then-id-eq-FACT
unfolding met_of
returns-then-id-eq-FACT c = simp (ne_eqb _ _ c.if-id-eq-FORMAT.false, ne_eqb _ _ c.if-id-eq-DATA.false, eq-eqb _ _ c.if-id-eq-FACT.true, eq-eqb _ _ c.if-p-ne0-3.false)

pub returns : goal.returns
unfolding met_of
returns c = simp (ne_eqb _ _ c.if-id-eq-FORMAT.false, ne_eqb _ _ c.if-id-eq-DATA.false, ne_eqb _ _ c.if-id-eq-FACT.false)
