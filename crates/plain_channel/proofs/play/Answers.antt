-- `play` meets its contract: turns go on together with the positions till none is left. Assumes nothing.
use Rattle.std.proofs.Common.{subst}
use Rattle.channel.specs.Channels.{Turning}
use Rattle.lent_channel.proofs.Turns.{onward_else, same_turning}
use Rattle.plain_channel.specs.Sides.{Together}
use Rattle.plain_channel.proofs.Ends.{together_first, played_from}
use Rattle.plain_channel.proofs.Togethers.{together_on}
use Rattle.plain_channel.proofs.play.Goals as goal

pub loop-g-init : goal.loop-g-init
loop-g-init c = let a = c.args in together_first a.params a.«data».now a.from a.first a.c.now a.side.now c.places-n.result c.glided-g.result c.places-n.ensures c.requires c.glided-g.ensures

pub loop-g-preserved : goal.loop-g-preserved
loop-g-preserved c =
    let a = c.args in
    let l = c.loop-g in
    let r = c.go_on-g in
    together_on l.invariant
    (subst (λ (u : Turning). Together u c.places-n.result l.c l.side l.g r.new.c r.new.side r.result) (same_turning a.params a.«data».now a.c.now l.c (onward_else l.invariant.onward)) r.ensures.1)

pub returns : goal.returns
returns c =
    let a = c.args in
    let l = c.loop-g in
    played_from a.params a.«data».now a.from a.first a.c.now a.side.now c.places-n.result l.c l.side l.g c.moved_of.result c.places-n.ensures l.invariant c.loop-g-test.false c.moved_of.ensures
