-- `beside` meets its contract: what the phrases so far say goes from turn to turn. Assumes nothing.
use Rattle.std.proofs.Common.{rules, arith, ◌≡◌, ◌<◌, length, get_or, ap, ◌∙◌}
use Rattle.phrases.specs.declared.Beside.{Beside}
use Rattle.phrases.specs.Phrases.{no_phrase}
use Rattle.lent_channel.specs.Turns.{beside_next}
use Rattle.lent_channel.proofs.Besides.{entries, few, beside_nothing, beside_one_more, beside_seen}
use Rattle.lent_channel.proofs.beside.Goals as goal

pub loop-k-init : goal.loop-k-init
loop-k-init c = record {
  upto = omega arith;
  long = λ h. absurd (omega (arith, h));
  so_far = c.none-b.ensures ∙ beside_nothing c.args.c.now.head c.args.c.now.table c.args.capacity;
}

pub loop-k-preserved : goal.loop-k-preserved
loop-k-preserved c =
    let h = c.args.c.now.head in
    let table = c.args.c.now.table in
    let all : length table ≡ 8 = search rules in
    let lt : c.loop-k.k < length table = let on : c.loop-k.k < entries c.args.c.now.several = omega (arith, c.entries-n.ensures) in omega (arith, all, few c.args.c.now.several c.loop-k.k on) in
    record {
      upto = omega arith;
      long = λ z. all;
      so_far = c.beside_next-b.ensures ∙ ap (λ (b : Beside). beside_next b h c.loop-k.k (get_or table c.loop-k.k no_phrase)) c.loop-k.invariant.so_far
          ∙ beside_one_more h table c.args.capacity c.loop-k.k lt;
    }

pub returns : goal.returns
returns c =
    let end : c.loop-k.k ≡ entries c.args.c.now.several = omega (arith, c.entries-n.ensures) in
    c.loop-k.invariant.so_far ∙ beside_seen c.args.c.now.head c.args.c.now.table c.args.capacity c.args.c.now.several c.loop-k.k end c.loop-k.invariant.long
