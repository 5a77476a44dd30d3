-- `each` meets its contract: what stands after j of n turns. Assumes nothing.
use Rattle.std.proofs.Common.{rules, ◌≡◌, length, arith}
use Rattle.lent_sampler.proofs.Changes.{turned_starts, turned_on, turned_ends}
use Rattle.lent_sampler.proofs.each.Goals as goal

pub loop-j-init : goal.loop-j-init
loop-j-init c = turned_starts c.args.s.now c.args.change c.min-n.result (omega (arith, c.min-n.ensures))

pub loop-j-preserved : goal.loop-j-preserved
loop-j-preserved c =
    let both : length c.loop-j.s.channels ≡ 2 = search rules in
    turned_on c.args.s.now c.args.change c.loop-j.invariant c.loop-j-test.true both _ c.change.ensures

pub returns : goal.returns
returns c = turned_ends c.args.s.now c.args.change _ _ _ c.min-n.ensures c.loop-j.invariant (omega arith)
