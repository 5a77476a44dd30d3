-- `event_at` meets its contract. Assumes nothing.
use borrow.Author.Tests.{lt-ltb, le-ltb, le-leb, lt-leb, eq-eqb, ne_eqb}
use Rattle.smf.specs.Events.{event_at}
use Rattle.smf.proofs.events.event_at.Goals as goal

pub returns-then-end-at : goal.returns-then-end-at
unfolding event_at
returns-then-end-at c = simp (le-ltb _ _ c.if-end-at.true)

pub returns-then-byte-ge128 : goal.returns-then-byte-ge128
unfolding event_at
returns-then-byte-ge128 c = simp (lt-ltb _ _ c.if-end-at.false, ← c.byte_at-byte.ensures, le-leb _ _ c.if-byte-ge128.true, c.status_event.ensures)

pub returns-then-running-eq0 : goal.returns-then-running-eq0
unfolding event_at
returns-then-running-eq0 c = simp (lt-ltb _ _ c.if-end-at.false, ← c.byte_at-byte.ensures, lt-leb _ _ c.if-byte-ge128.false, eq-eqb _ _ c.if-running-eq0.true)

pub returns : goal.returns
unfolding event_at
returns c = simp (lt-ltb _ _ c.if-end-at.false, ← c.byte_at-byte.ensures, lt-leb _ _ c.if-byte-ge128.false, ne_eqb _ _ c.if-running-eq0.false, c.channel_at.ensures)
