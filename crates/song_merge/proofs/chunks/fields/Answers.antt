-- `fields` meets its contract: each return is its rule. Assumes nothing.
use borrow.Author.Tests.{lt-ltb, le-ltb, le-leb, lt-leb, eq-eqb, ne_eqb}
use Rattle.song_merge.specs.Headings.{fields_of}
use Rattle.song_merge.proofs.chunks.fields.Goals as goal

pub returns-then-all-lt10 : goal.returns-then-all-lt10
unfolding fields_of
returns-then-all-lt10 c = simp (c.broken.ensures, lt-ltb _ _ c.if-all-lt10.true)

pub returns-then-two_at-ne1 : goal.returns-then-two_at-ne1
unfolding fields_of
returns-then-two_at-ne1 c = simp (c.broken-then-two_at-ne1.ensures, le-ltb _ _ c.if-all-lt10.false, ← c.two_at.ensures.value, ne_eqb _ _ c.if-two_at-ne1.true)

pub returns-then-all-lt12 : goal.returns-then-all-lt12
unfolding fields_of
returns-then-all-lt12 c = simp (c.broken-then-all-lt12.ensures, le-ltb _ _ c.if-all-lt10.false, ← c.two_at.ensures.value, eq-eqb _ _ c.if-two_at-ne1.false, lt-ltb _ _ c.if-all-lt12.true)

pub returns-then-count-eq0 : goal.returns-then-count-eq0
unfolding fields_of
returns-then-count-eq0 c = simp (c.broken-then-count-eq0.ensures, le-ltb _ _ c.if-all-lt10.false, ← c.two_at.ensures.value, eq-eqb _ _ c.if-two_at-ne1.false, le-ltb _ _ c.if-all-lt12.false, ← c.two_at-count.ensures.value, eq-eqb _ _ c.if-count-eq0.true)

pub returns-then-all-lt14 : goal.returns-then-all-lt14
unfolding fields_of
returns-then-all-lt14 c = simp (c.broken-then-all-lt14.ensures, le-ltb _ _ c.if-all-lt10.false, ← c.two_at.ensures.value, eq-eqb _ _ c.if-two_at-ne1.false, le-ltb _ _ c.if-all-lt12.false, ← c.two_at-count.ensures.value, ne_eqb _ _ c.if-count-eq0.false, lt-ltb _ _ c.if-all-lt14.true)

pub returns-then-division-ge32768 : goal.returns-then-division-ge32768
unfolding fields_of
returns-then-division-ge32768 c = simp (c.broken-then-division-ge32768.ensures, le-ltb _ _ c.if-all-lt10.false, ← c.two_at.ensures.value, eq-eqb _ _ c.if-two_at-ne1.false, le-ltb _ _ c.if-all-lt12.false, ← c.two_at-count.ensures.value, ne_eqb _ _ c.if-count-eq0.false, le-ltb _ _ c.if-all-lt14.false, ← c.two_at-division.ensures.value, le-leb _ _ c.if-division-ge32768.true)

pub returns-then-division-eq0 : goal.returns-then-division-eq0
unfolding fields_of
returns-then-division-eq0 c = simp (c.broken-then-division-eq0.ensures, le-ltb _ _ c.if-all-lt10.false, ← c.two_at.ensures.value, eq-eqb _ _ c.if-two_at-ne1.false, le-ltb _ _ c.if-all-lt12.false, ← c.two_at-count.ensures.value, ne_eqb _ _ c.if-count-eq0.false, le-ltb _ _ c.if-all-lt14.false, ← c.two_at-division.ensures.value, lt-leb _ _ c.if-division-ge32768.false, eq-eqb _ _ c.if-division-eq0.true)

pub returns-then-all-size : goal.returns-then-all-size
unfolding fields_of
returns-then-all-size c = simp (c.broken-then-all-size.ensures, le-ltb _ _ c.if-all-lt10.false, ← c.two_at.ensures.value, eq-eqb _ _ c.if-two_at-ne1.false, le-ltb _ _ c.if-all-lt12.false, ← c.two_at-count.ensures.value, ne_eqb _ _ c.if-count-eq0.false, le-ltb _ _ c.if-all-lt14.false, ← c.two_at-division.ensures.value, lt-leb _ _ c.if-division-ge32768.false, ne_eqb _ _ c.if-division-eq0.false, lt-ltb _ _ c.if-all-size.true)

pub returns : goal.returns
unfolding fields_of
returns c = simp (le-ltb _ _ c.if-all-lt10.false, ← c.two_at.ensures.value, eq-eqb _ _ c.if-two_at-ne1.false, le-ltb _ _ c.if-all-lt12.false, ← c.two_at-count.ensures.value, ne_eqb _ _ c.if-count-eq0.false, le-ltb _ _ c.if-all-lt14.false, ← c.two_at-division.ensures.value, lt-leb _ _ c.if-division-ge32768.false, ne_eqb _ _ c.if-division-eq0.false, le-ltb _ _ c.if-all-size.false)
