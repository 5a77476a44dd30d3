-- `loop_length` meets its contract. Assumes nothing.
use mathlib.Core.Path.{sym}
use Prim.Native.Nat.{◌≤◌}
use native.Mathlib.Omega.{arith}
use Rattle.common_types.specs.declared.time_value.TimeOrRatio.TheVariants.{WholeBars}
use lib.ListN.{get_or-eq_default}
use Rattle.listing.specs.Records.{first_lengths, length_by_kind}
use Rattle.listing.proofs.records.loop_length.Goals as goal

pub returns-in-0 : goal.returns-in-0
unfolding length_by_kind
returns-in-0 c = rw c.in-0.is

pub returns-in-1 : goal.returns-in-1
unfolding length_by_kind
returns-in-1 c = rw c.in-1.is

pub returns-in-2 : goal.returns-in-2
unfolding length_by_kind
returns-in-2 c = rw c.in-2.is

pub returns-in-3 : goal.returns-in-3
unfolding length_by_kind
returns-in-3 c = rw c.in-3.is

pub returns-in-4 : goal.returns-in-4
unfolding length_by_kind
returns-in-4 c = rw c.in-4.is

pub returns-in_default : goal.returns-in_default
unfolding length_by_kind
returns-in_default c =
    let past : 5 ≤ c.args.kind = omega arith in
    sym (get_or-eq_default (first_lengths c.args.value) (WholeBars c.args.value) past)
