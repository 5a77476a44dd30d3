-- `call_of` meets its contract: the table of calls. Assumes nothing.
use mathlib.Core.Path.{sym}
use Prim.Native.Nat.{◌≤◌}
use native.Mathlib.Omega.{arith}
use Rattle.listing.specs.declared.records.Call.TheVariants.{Reset}
use lib.ListN.{get_or-eq_default}
use Rattle.listing.specs.Records.{calls, call_of}
use Rattle.listing.proofs.records.call_of.Goals as goal

pub returns-in-0 : goal.returns-in-0
unfolding call_of
returns-in-0 c = simp (← c.byte_at-kind.ensures, c.in-0.is, c.params.ensures)

pub returns-in-1 : goal.returns-in-1
unfolding call_of
returns-in-1 c = simp (← c.byte_at-kind.ensures, c.in-1.is, c.note.ensures, c.float_at.ensures, c.float_at-in-1.ensures)

pub returns-in-2 : goal.returns-in-2
unfolding call_of
returns-in-2 c = simp (← c.byte_at-kind.ensures, c.in-2.is, c.note-in-2.ensures)

pub returns-in-3 : goal.returns-in-3
unfolding call_of
returns-in-3 c = simp (← c.byte_at-kind.ensures, c.in-3.is, c.note-in-3.ensures, c.float_at-in-3.ensures)

pub returns-in-4 : goal.returns-in-4
unfolding call_of
returns-in-4 c = simp (← c.byte_at-kind.ensures, c.in-4.is)

pub returns-in-5 : goal.returns-in-5
unfolding call_of
returns-in-5 c = simp (← c.byte_at-kind.ensures, c.in-5.is)

pub returns-in-6 : goal.returns-in-6
unfolding call_of
returns-in-6 c = simp (← c.byte_at-kind.ensures, c.in-6.is, c.frame_call.ensures)

pub returns-in_default : goal.returns-in_default
unfolding call_of
returns-in_default c =
    let past : 7 ≤ c.byte_at-kind.result = omega arith in
    sym (rw (sym c.byte_at-kind.ensures) (get_or-eq_default (calls c.args.h c.args.r.now) Reset past))
