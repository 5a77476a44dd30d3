-- `binary32::whole_root` meets its contract: each step leads to the root or above it, and the test that ends the loop says that it is not above. Assumes nothing.
use Rattle.std.proofs.Common.{◌*◌, ◌<◌, le_trans, le_of_lt, zero-lt-suc, mul-le-mul, div-le_self, arith}
use Rattle.binary32.proofs.WholeRoots.{isqrt_is, newton_above, newton_down, square_pos}
use Rattle.binary32.proofs.whole_root.Goals as goal

pub loop-r-init : goal.loop-r-init
loop-r-init c = (newton_above c.args.n 23726566 (zero-lt-suc 23726565), omega arith)

pub overflow_mul-r : goal.overflow_mul-r
overflow_mul-r c = omega (arith, mul-le-mul c.loop-r.invariant.1 c.loop-r.invariant.1)

pub nonzero_div-r-in-loop-r : goal.nonzero_div-r-in-loop-r
nonzero_div-r-in-loop-r c = square_pos _ _ c.loop-r-test.true

pub overflow_add-r-in-loop-r : goal.overflow_add-r-in-loop-r
overflow_add-r-in-loop-r c = omega (arith, div-le_self c.args.n c.loop-r.r)

pub loop-r-smaller : goal.loop-r-smaller
loop-r-smaller c = newton_down _ _ c.loop-r-test.true

pub loop-r-preserved : goal.loop-r-preserved
loop-r-preserved c =
    let n = c.args.n in
    let r = c.loop-r.r in
    let h : n < r * r = c.loop-r-test.true in
    (newton_above n r (square_pos n r h), le_trans (le_of_lt (newton_down n r h)) c.loop-r.invariant.1)

pub returns : goal.returns
returns c = isqrt_is _ _ (c.loop-r-test.false, c.loop-r.invariant.0)
