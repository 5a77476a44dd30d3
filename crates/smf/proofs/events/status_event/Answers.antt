-- `status_event` meets its contract. Assumes nothing.
use borrow.Author.Tests.{lt-ltb, le-ltb, eq-eqb, ne_eqb}
use Rattle.smf.specs.Events.{status_of}
use Rattle.smf.proofs.events.status_event.Goals as goal

pub returns-then-status-lt240 : goal.returns-then-status-lt240
unfolding status_of
returns-then-status-lt240 c = simp (lt-ltb _ _ c.if-status-lt240.true, c.channel_at.ensures)

pub returns-then-status-eq255 : goal.returns-then-status-eq255
unfolding status_of
returns-then-status-eq255 c = simp (le-ltb _ _ c.if-status-lt240.false, eq-eqb _ _ c.if-status-eq255.true, c.meta_at.ensures)

pub returns-then-status-eq240 : goal.returns-then-status-eq240
unfolding status_of
returns-then-status-eq240 c = simp (le-ltb _ _ c.if-status-lt240.false, ne_eqb _ _ c.if-status-eq255.false, eq-eqb _ _ c.if-status-eq240.true, c.sysex_at.ensures)

pub returns-then-status-eq247 : goal.returns-then-status-eq247
unfolding status_of
returns-then-status-eq247 c = simp (le-ltb _ _ c.if-status-lt240.false, ne_eqb _ _ c.if-status-eq255.false, ne_eqb _ _ c.if-status-eq240.false, eq-eqb _ _ c.if-status-eq247.true, c.sysex_at-then-status-eq247.ensures)

pub returns : goal.returns
unfolding status_of
returns c = simp (le-ltb _ _ c.if-status-lt240.false, ne_eqb _ _ c.if-status-eq255.false, ne_eqb _ _ c.if-status-eq240.false, ne_eqb _ _ c.if-status-eq247.false)
