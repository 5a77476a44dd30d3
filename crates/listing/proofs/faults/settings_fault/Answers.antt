-- `settings_fault` meets its contract. Assumes nothing.
use borrow.Author.Tests.{le-leb, lt-leb}
use Rattle.listing.specs.Faults.{settings_fault_of}
use Rattle.listing.proofs.faults.settings_fault.Goals as goal

pub returns-then-passthru-gt1 : goal.returns-then-passthru-gt1
unfolding settings_fault_of
returns-then-passthru-gt1 c = simp (← c.byte_at-passthru.ensures, lt-leb _ _ c.if-passthru-gt1.true)

pub returns-then-loop_mode-gt2 : goal.returns-then-loop_mode-gt2
unfolding settings_fault_of
returns-then-loop_mode-gt2 c = simp (← c.byte_at-passthru.ensures, ← c.byte_at-loop_mode.ensures, le-leb _ _ c.if-passthru-gt1.false, lt-leb _ _ c.if-loop_mode-gt2.true)

pub returns-then-kind-last : goal.returns-then-kind-last
unfolding settings_fault_of
returns-then-kind-last c = simp (← c.byte_at-passthru.ensures, ← c.byte_at-loop_mode.ensures, ← c.byte_at-kind.ensures, ← c.last_length_kind-last.ensures, le-leb _ _ c.if-passthru-gt1.false, le-leb _ _ c.if-loop_mode-gt2.false, lt-leb _ _ c.if-kind-last.true)

pub returns-then-note_off-gt2 : goal.returns-then-note_off-gt2
unfolding settings_fault_of
returns-then-note_off-gt2 c = simp (← c.byte_at-passthru.ensures, ← c.byte_at-loop_mode.ensures, ← c.byte_at-kind.ensures, ← c.last_length_kind-last.ensures, ← c.byte_at-note_off.ensures, le-leb _ _ c.if-passthru-gt1.false, le-leb _ _ c.if-loop_mode-gt2.false, le-leb _ _ c.if-kind-last.false, lt-leb _ _ c.if-note_off-gt2.true)

pub returns : goal.returns
unfolding settings_fault_of
returns c = simp (← c.byte_at-passthru.ensures, ← c.byte_at-loop_mode.ensures, ← c.byte_at-kind.ensures, ← c.last_length_kind-last.ensures, ← c.byte_at-note_off.ensures, le-leb _ _ c.if-passthru-gt1.false, le-leb _ _ c.if-loop_mode-gt2.false, le-leb _ _ c.if-kind-last.false, le-leb _ _ c.if-note_off-gt2.false)
