-- `in_order` meets its contract: phrases are looked at until one isn't clear of those before it. Assumes nothing.
use Rattle.std.proofs.Common.{arith, ◌≡◌, ◌<◌, ℕ, sym, ap, ◌∙◌}
use Rattle.phrases.specs.Phrases.{clear_of, reach_from, reach_below, is_in_order}
use Rattle.phrases.proofs.Order.{reach_none, reach_next, order_none, order_next, order_not}
use Rattle.channel.specs.Tables.{with_recording}
use Rattle.lent_channel.proofs.Besides.{entries, few}
use Rattle.lent_channel.proofs.in_order.Goals as goal

pub loop-k-init : goal.loop-k-init
loop-k-init c =
    let ps = with_recording c.args.c.now.head c.args.c.now.table in
    record { upto = omega arith; reach = reach_none ps; so_far = order_none c.args.capacity ps }

pub numbered-p-requires : goal.numbered-p-requires
numbered-p-requires c =
    let lt : c.loop-k.k < entries c.args.c.now.several = omega (arith, c.entries-n.ensures) in
    few c.args.c.now.several c.loop-k.k lt

pub returns-then-not-clear : goal.returns-then-not-clear
returns-then-not-clear c =
    let ps = with_recording c.args.c.now.head c.args.c.now.table in
    let lt : c.loop-k.k < entries c.args.c.now.several = omega (arith, c.entries-n.ensures) in
    order_not c.args.capacity ps (entries c.args.c.now.several) c.loop-k.k lt
    (sym (ap (λ (n : ℕ). clear_of n c.args.capacity c.numbered-p.result) c.loop-k.invariant.reach ∙ ap (clear_of (reach_below ps c.loop-k.k) c.args.capacity) c.numbered-p.ensures)
    ∙ sym c.clear.ensures ∙ c.if-not-clear.true)

pub loop-k-preserved : goal.loop-k-preserved
loop-k-preserved c =
    let ps = with_recording c.args.c.now.head c.args.c.now.table in
    record {
      upto = omega arith;
      reach = c.reach_from-upto.ensures ∙ ap (λ (n : ℕ). reach_from n c.numbered-p.result) c.loop-k.invariant.reach
          ∙ ap (reach_from (reach_below ps c.loop-k.k)) c.numbered-p.ensures ∙ reach_next ps c.loop-k.k;
      so_far = order_next c.args.capacity ps c.loop-k.k c.loop-k.invariant.so_far
          (sym (ap (λ (n : ℕ). clear_of n c.args.capacity c.numbered-p.result) c.loop-k.invariant.reach ∙ ap (clear_of (reach_below ps c.loop-k.k) c.args.capacity) c.numbered-p.ensures)
          ∙ sym c.clear.ensures ∙ c.if-not-clear.false);
    }

pub returns : goal.returns
returns c =
    let ps = with_recording c.args.c.now.head c.args.c.now.table in
    let end : c.loop-k.k ≡ entries c.args.c.now.several = omega (arith, c.entries-n.ensures) in
    sym c.loop-k.invariant.so_far ∙ ap (is_in_order c.args.capacity ps) end
