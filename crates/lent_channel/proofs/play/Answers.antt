-- `play` meets its contract: turns go on until none is left. Assumes nothing.
use Rattle.std.proofs.Common.{arith, ◌≤◌, ℕ, min, sym, ap, subst, ◌∙◌}
use Rattle.channel.specs.Channels.{Turning, turning_in}
use Rattle.lent_channel.specs.declared.Going.{Going}
use Rattle.lent_channel.specs.Turns.{Stands, Onward}
use Rattle.lent_channel.proofs.Turns.{PlayedTo, played_first, played_next, ended_heard, ended_channel, same_turning, onward_else}
use Rattle.lent_channel.proofs.play.Goals as goal

pub loop-g-init : goal.loop-g-init
loop-g-init c =
    let s = turning_in c.args.params c.args.c.now c.args.data.now in
    subst (λ (g : Going). PlayedTo s c.args.c.now c.args.c.now g) (sym c.beginning-g.ensures) (played_first s c.args.c.now)

pub go_on-g-requires : goal.go_on-g-requires
go_on-g-requires c = (subst (λ (n : ℕ). Stands n c.loop-g.g) (sym c.places-n.ensures) c.loop-g.invariant.on.stands, c.loop-g-test.true, c.measure-m.ensures)

pub loop-g-preserved : goal.loop-g-preserved
loop-g-preserved c =
    let s : Turning = turning_in c.args.params c.args.c.now c.args.data.now in
    let same = same_turning c.args.params c.args.data.now c.args.c.now c.loop-g.c (onward_else c.loop-g.invariant.on) in
    played_next s c.args.c.now c.loop-g.c c.go_on-g.new.c c.loop-g.g c.go_on-g.result c.loop-g.invariant c.go_on-g.ensures.further c.go_on-g.ensures.all
    (subst (λ (n : ℕ). Onward s n c.loop-g.c c.loop-g.g c.go_on-g.new.c c.go_on-g.result) c.places-n.ensures
    (subst (λ (u : Turning). Onward u c.places-n.result c.loop-g.c c.loop-g.g c.go_on-g.new.c c.go_on-g.result) same c.go_on-g.ensures.onward))

pub moved_of-requires : goal.moved_of-requires
moved_of-requires c =
    let s = c.loop-g.invariant.on.stands in
    (omega (arith, s.up, s.inside, s.few), s.first)

pub returns : goal.returns
returns c =
    let s = turning_in c.args.params c.args.c.now c.args.data.now in
    let end : min c.args.c.now.count 32 ≤ c.loop-g.g.place = omega arith in (
      ap (λ (n : ℕ). record { output = c.loop-g.g.output; moved = n }) c.moved_of.ensures ∙ ended_heard s c.args.c.now c.loop-g.c c.loop-g.g c.loop-g.invariant end,
      ended_channel s c.args.c.now c.loop-g.c c.loop-g.g c.loop-g.invariant end,
    )
