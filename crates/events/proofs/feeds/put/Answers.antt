-- `put` meets its contract. Assumes nothing.
use Prim.Native.Nat.{◌+◌, min}
use mathlib.Core.Path.{◌≡◌}
use native.Mathlib.Omega.{arith}
use lib.ListN.{length}
use Rattle.events.proofs.Bytes.{put_is}
use Rattle.events.proofs.feeds.put.Goals as goal

pub returns-then-size-lt64 : goal.returns-then-size-lt64
returns-then-size-lt64 c =
    let a = c.args in
    let whole : length a.line.bytes ≡ 64 = c.well_formed.0.1.1.0.1.0.1 in
    let size : a.at + a.line.length ≡ a.at + min a.line.length 64 = omega (arith, c.if-size-lt64.true) in
    record { upper_bound = omega (arith, c.if-size-lt64.true); out_after = put_is a.line a.out.now _ a.at whole c.requires c.print.ensures.lent_after _ size }

pub returns-else-size-lt64 : goal.returns-else-size-lt64
returns-else-size-lt64 c =
    let a = c.args in
    let whole : length a.line.bytes ≡ 64 = c.well_formed.0.1.1.0.1.0.1 in
    let size : a.at + 64 ≡ a.at + min a.line.length 64 = omega (arith, c.if-size-lt64.false) in
    record { upper_bound = omega arith; out_after = put_is a.line a.out.now _ a.at whole c.requires c.print.ensures.lent_after _ size }
