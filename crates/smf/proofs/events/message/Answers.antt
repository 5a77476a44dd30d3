-- `message` meets its contract. Assumes nothing.
use native.Mathlib.Nat.{zero-mul, add-zero}
use borrow.Author.Tests.{lt-ltb, le-ltb}
use Rattle.smf.specs.Events.{message_of}
use Rattle.smf.proofs.events.message.Goals as goal

pub returns-then-status-lt144 : goal.returns-then-status-lt144
unfolding message_of
returns-then-status-lt144 c = simp (lt-ltb _ _ c.if-status-lt144.true, zero-mul, add-zero)

pub returns-then-status-lt160 : goal.returns-then-status-lt160
unfolding message_of
returns-then-status-lt160 c = simp (le-ltb _ _ c.if-status-lt144.false, lt-ltb _ _ c.if-status-lt160.true)

pub returns-else-status-lt160 : goal.returns-else-status-lt160
unfolding message_of
returns-else-status-lt160 c = simp (le-ltb _ _ c.if-status-lt144.false, le-ltb _ _ c.if-status-lt160.false)
