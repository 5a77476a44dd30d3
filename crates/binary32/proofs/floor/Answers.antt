-- `binary32::floor` meets its contract, by a law of `Floors` for each arm. Assumes nothing.
use lib.Ieee.{of_bits, neg}
use Rattle.std.proofs.Common.{rules}
use Rattle.binary32.proofs.Floors.{above_large, below_large, neither, turned, below_floor}
use Rattle.binary32.proofs.floor.Goals as goal

pub whole_part-below-requires : goal.whole_part-below-requires
unfolding of_bits neg
whole_part-below-requires c =
    let h = turned c.args.x c.if-x-3.true c.if-x-4.true in
    record { above_zero = h.0; below_top = h.1 }

pub returns-else-x-2 : goal.returns-else-x-2
unfolding of_bits
returns-else-x-2 c = above_large c.args.x (search rules) c.if-x.true c.if-x-2.false

pub returns-then-below-x : goal.returns-then-below-x
unfolding of_bits neg
returns-then-below-x c =
    (below_floor c.args.x _ (search rules) c.if-x-3.true c.if-x-4.true c.whole_part-below.ensures).0 c.if-below-x.true

pub returns-else-below-x : goal.returns-else-below-x
unfolding of_bits neg
returns-else-below-x c =
    (below_floor c.args.x _ (search rules) c.if-x-3.true c.if-x-4.true c.whole_part-below.ensures).1 c.if-below-x.false

pub returns-else-x-4 : goal.returns-else-x-4
unfolding of_bits neg
returns-else-x-4 c = below_large c.args.x (search rules) c.if-x-3.true c.if-x-4.false

pub returns-else-x-3 : goal.returns-else-x-3
unfolding of_bits
returns-else-x-3 c = neither c.args.x (search rules) c.if-x.false c.if-x-3.false
