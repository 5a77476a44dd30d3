-- `good_pairs` meets its contract: phrases are judged until one is not good. Assumes nothing.
use Rattle.std.proofs.Common.{arith, ◌≡◌, ◌<◌, sym, ap, ◌∙◌}
use Rattle.lent_channel.proofs.Besides.{entries, few, table_none, table_one_more, table_all, table_not, table_upto}
use Rattle.lent_channel.proofs.good_pairs.Goals as goal

pub loop-k-init : goal.loop-k-init
loop-k-init c = record { upto = omega arith; so_far = table_none c.args.c.now.head c.args.c.now.table c.args.capacity }

pub phrase_good-requires : goal.phrase_good-requires
phrase_good-requires c =
    let lt : c.loop-k.k < entries c.args.c.now.several = omega (arith, c.entries-n.ensures) in
    few c.args.c.now.several c.loop-k.k lt

pub returns-then-not-phrase_good : goal.returns-then-not-phrase_good
returns-then-not-phrase_good c =
    let lt : c.loop-k.k < entries c.args.c.now.several = omega (arith, c.entries-n.ensures) in
    table_not c.args.c.now.head c.args.c.now.table c.args.capacity c.args.c.now.several c.loop-k.k lt (sym c.phrase_good.ensures ∙ c.if-not-phrase_good.true)

pub loop-k-preserved : goal.loop-k-preserved
loop-k-preserved c = record {
  upto = omega arith;
  so_far = table_one_more c.args.c.now.head c.args.c.now.table c.args.capacity c.loop-k.k c.loop-k.invariant.so_far (sym c.phrase_good.ensures ∙ c.if-not-phrase_good.false);
}

pub returns : goal.returns
returns c =
    let end : c.loop-k.k ≡ entries c.args.c.now.several = omega (arith, c.entries-n.ensures) in
    sym c.loop-k.invariant.so_far ∙ ap (table_upto c.args.c.now.head c.args.c.now.table c.args.capacity) end
    ∙ table_all c.args.c.now.head c.args.c.now.table c.args.capacity c.args.c.now.several
