-- `put_two` meets its contract. Assumes nothing.
use native.Mathlib.Omega.{arith}
use lib.ListN.{length-set}
use Rattle.wave.proofs.FieldBytes.{two_stored}
use Rattle.wave.proofs.stores.put_two.Goals as goal

pub bounds-out-at-2 : goal.bounds-out-at-2
bounds-out-at-2 c = simp length-set (omega arith)

pub returns : goal.returns
returns c = two_stored c.args.out.now c.args.at c.args.n
