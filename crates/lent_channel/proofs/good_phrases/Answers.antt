-- `good_phrases` meets its contract: phrases that stand in order are good. Assumes nothing.
use Rattle.std.proofs.Common.{◌<◌, ◌^◌, arith, sym, ◌∙◌}
use Rattle.lent_channel.proofs.Besides.{table_order}
use Rattle.lent_channel.proofs.good_phrases.Goals as goal

pub returns-then-in_order : goal.returns-then-in_order
returns-then-in_order c =
    let small : c.args.capacity < 2 ^ 64 = omega arith in
    c.if-in_order.true ∙ table_order c.args.c.now.head c.args.c.now.table c.args.capacity c.args.c.now.several small (sym c.in_order.ensures ∙ c.if-in_order.true)
