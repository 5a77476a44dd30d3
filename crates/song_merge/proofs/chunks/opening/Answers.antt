-- `opening` meets its contract: each return is its rule. Assumes nothing.
use borrow.Author.Tests.{lt-ltb, le-ltb, eq-eqb, ne_eqb}
use Rattle.song_merge.specs.Headings.{opening_of}
use Rattle.song_merge.proofs.chunks.opening.Goals as goal

pub returns-then-all-lt4 : goal.returns-then-all-lt4
unfolding opening_of
returns-then-all-lt4 c = simp (c.broken.ensures, lt-ltb _ _ c.if-all-lt4.true)

pub returns-then-four_at-ne-HEADER_TYPE : goal.returns-then-four_at-ne-HEADER_TYPE
unfolding opening_of
returns-then-four_at-ne-HEADER_TYPE c = simp (c.broken-then-four_at-ne-HEADER_TYPE.ensures, le-ltb _ _ c.if-all-lt4.false, ← c.four_at.ensures, ne_eqb _ _ c.if-four_at-ne-HEADER_TYPE.true)

pub returns-then-all-lt8 : goal.returns-then-all-lt8
unfolding opening_of
returns-then-all-lt8 c = simp (c.broken-then-all-lt8.ensures, le-ltb _ _ c.if-all-lt4.false, ← c.four_at.ensures, eq-eqb _ _ c.if-four_at-ne-HEADER_TYPE.false, lt-ltb _ _ c.if-all-lt8.true)

pub returns-then-size-lt6 : goal.returns-then-size-lt6
unfolding opening_of
returns-then-size-lt6 c = simp (c.broken-then-size-lt6.ensures, le-ltb _ _ c.if-all-lt4.false, ← c.four_at.ensures, eq-eqb _ _ c.if-four_at-ne-HEADER_TYPE.false, le-ltb _ _ c.if-all-lt8.false, ← c.four_at-size.ensures, lt-ltb _ _ c.if-size-lt6.true)

pub returns : goal.returns
unfolding opening_of
returns c = simp (le-ltb _ _ c.if-all-lt4.false, ← c.four_at.ensures, eq-eqb _ _ c.if-four_at-ne-HEADER_TYPE.false, le-ltb _ _ c.if-all-lt8.false, ← c.four_at-size.ensures, le-ltb _ _ c.if-size-lt6.false, c.fields.ensures)
