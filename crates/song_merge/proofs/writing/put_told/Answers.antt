-- `put_told` meets its contract. Assumes nothing.
use native.Mathlib.Omega.{arith}
use Rattle.song_merge.proofs.Events.{stored_with, stored_as_is}
use Rattle.song_merge.proofs.writing.put_told.Goals as goal

pub returns-then-byte_at-lt128 : goal.returns-then-byte_at-lt128
returns-then-byte_at-lt128 c = let a = c.args in
    let both = stored_with a.list.now a.c a.out.now a.at (omega arith) c.copy.ensures in
    record { value = both.0; out_after = both.1 }

pub returns : goal.returns
returns c = let a = c.args in
    let both = stored_as_is a.list.now a.c a.out.now a.at (omega arith) c.copy-2.ensures in
    record { value = both.0; out_after = both.1 }
