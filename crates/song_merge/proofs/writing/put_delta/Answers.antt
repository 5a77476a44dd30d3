-- `put_delta` meets its contract. Assumes nothing.
use native.Mathlib.Omega.{arith}
use lib.ListN.{length-set}
use Rattle.song_merge.proofs.Deltas.{stored_1, stored_2, stored_3, stored_4}
use Rattle.song_merge.proofs.writing.put_delta.Goals as goal

pub returns-then-n-lt128 : goal.returns-then-n-lt128
returns-then-n-lt128 c = let both = stored_1 c.args.n c.args.out.now c.args.at (omega arith) in record { value = both.0; out_after = both.1 }

pub bounds-out-at-then-n-lt16384-2 : goal.bounds-out-at-then-n-lt16384-2
bounds-out-at-then-n-lt16384-2 c = simp length-set (omega arith)

pub returns-then-n-lt16384 : goal.returns-then-n-lt16384
returns-then-n-lt16384 c = let both = stored_2 c.args.n c.args.out.now c.args.at (omega arith) (omega arith) in record { value = both.0; out_after = both.1 }

pub bounds-out-at-then-n-lt2097152-2 : goal.bounds-out-at-then-n-lt2097152-2
bounds-out-at-then-n-lt2097152-2 c = simp length-set (omega arith)

pub bounds-out-at-then-n-lt2097152-3 : goal.bounds-out-at-then-n-lt2097152-3
bounds-out-at-then-n-lt2097152-3 c = simp length-set (omega arith)

pub returns-then-n-lt2097152 : goal.returns-then-n-lt2097152
returns-then-n-lt2097152 c = let both = stored_3 c.args.n c.args.out.now c.args.at (omega arith) (omega arith) in record { value = both.0; out_after = both.1 }

pub bounds-out-at-3 : goal.bounds-out-at-3
bounds-out-at-3 c = simp length-set (omega arith)

pub bounds-out-at-4 : goal.bounds-out-at-4
bounds-out-at-4 c = simp length-set (omega arith)

pub bounds-out-at-5 : goal.bounds-out-at-5
bounds-out-at-5 c = simp length-set (omega arith)

pub returns : goal.returns
returns c = let both = stored_4 c.args.n c.args.out.now c.args.at (omega arith) in record { value = both.0; out_after = both.1 }
