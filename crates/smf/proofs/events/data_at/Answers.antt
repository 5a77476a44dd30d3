-- `data_at` meets its contract. Assumes nothing.
use borrow.Author.Tests.{lt-ltb, le-ltb}
use Rattle.smf.specs.Events.{data_at}
use Rattle.smf.proofs.events.data_at.Goals as goal

pub returns-then-end-at : goal.returns-then-end-at
unfolding data_at
returns-then-end-at c = simp (le-ltb _ _ c.if-end-at.true)

pub returns-then-byte-lt128 : goal.returns-then-byte-lt128
unfolding data_at
returns-then-byte-lt128 c = simp (lt-ltb _ _ c.if-end-at.false, ← c.byte_at-byte.ensures, lt-ltb _ _ c.if-byte-lt128.true)

pub returns-else-byte-lt128 : goal.returns-else-byte-lt128
unfolding data_at
returns-else-byte-lt128 c = simp (lt-ltb _ _ c.if-end-at.false, ← c.byte_at-byte.ensures, le-ltb _ _ c.if-byte-lt128.false)
