-- `good_riff` meets its contract. Assumes nothing.
use Rattle.wave.specs.Reader.{good_riff}
use borrow.Author.Tests.{le-leb, lt-leb, eq-eqb, ne_eqb}
use Rattle.wave.proofs.good_riff.Goals as goal

pub returns-then-all-lt12 : goal.returns-then-all-lt12
unfolding good_riff
returns-then-all-lt12 c = simp (lt-leb _ _ c.if-all-lt12.true)

pub returns-then-four_at-ne-RIFF : goal.returns-then-four_at-ne-RIFF
unfolding good_riff
returns-then-four_at-ne-RIFF c = simp (le-leb _ _ c.if-all-lt12.false, ← c.four_at.ensures, ne_eqb _ _ c.if-four_at-ne-RIFF.true)

pub returns-then-four_at-all : goal.returns-then-four_at-all
unfolding good_riff
returns-then-four_at-all c = simp (le-leb _ _ c.if-all-lt12.false, ← c.four_at.ensures, eq-eqb _ _ c.if-four_at-ne-RIFF.false, ← c.four_at-2.ensures, ne_eqb _ _ c.if-four_at-all.true)

pub returns : goal.returns
unfolding good_riff
returns c = simp (le-leb _ _ c.if-all-lt12.false, ← c.four_at.ensures, eq-eqb _ _ c.if-four_at-ne-RIFF.false, ← c.four_at-2.ensures, eq-eqb _ _ c.if-four_at-all.false, ← c.four_at-3.ensures)
