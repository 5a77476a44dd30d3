-- `feed` meets its contract. The invariant: what the turns that are left hand out, behind what was, is what all of them do. The measure is the turns that are
-- left. Assumes nothing.
use mathlib.Core.Path.{refl, sym, ◌∙◌}
use native.Mathlib.Omega.{arith}
use Rattle.events.proofs.Turned.{goes_first, goes_next, goes_none, goes_over}
use borrow.Author.Rules.{rules}
use Rattle.events.proofs.feeds.feed.Goals as goal

pub loop-turns-init : goal.loop-turns-init
loop-turns-init c = (refl, refl, goes_first c.args.last c.args.state c.args.memory.now c.args.input.now c.args.out.now c.requires)

pub goes_on-requires : goal.goes_on-requires
goes_on-requires c = c.loop-turns.invariant.2.used

pub one-fed-requires : goal.one-fed-requires
one-fed-requires c =
    let g = c.loop-turns.invariant.2 in record {
      used_in_bounds = g.used;
      size_in_bounds = omega (arith, g.room, c.loop-turns-test.true);
    }

pub loop-turns-preserved : goal.loop-turns-preserved
loop-turns-preserved c =
    let one = c.one-fed in (
      search rules,
      search rules,
      goes_next c.loop-turns.invariant.2 c.loop-turns-test.true (sym c.goes_on.ensures ∙ c.if-goes_on.true) one.ensures (search rules),
    )

pub returns-else-goes_on : goal.returns-else-goes_on
returns-else-goes_on c = goes_none c.loop-turns.invariant.2 (sym c.goes_on.ensures ∙ c.if-goes_on.false)

pub returns-after-loop-turns : goal.returns-after-loop-turns
returns-after-loop-turns c = goes_over c.loop-turns.invariant.2 c.loop-turns-test.false
