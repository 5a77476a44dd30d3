-- `refill` meets its contract: the pour is emptied, and voices are poured where they may be. Assumes nothing.
use Rattle.std.proofs.Common.{sym, ◌∙◌}
use Rattle.plain_channel.proofs.Runs.{easing_so, unfilled_so, filled_so}
use Rattle.plain_channel.proofs.refill.Goals as goal

pub ease-eased-requires : goal.ease-eased-requires
ease-eased-requires c =
    let a = c.args in
    easing_so a.params a.«data».now a.togo a.c.now a.side.now c.new-side.result c.new-side.ensures c.stretch_of-n.result c.stretch_of-n.ensures (sym c.may_ease.ensures ∙ c.if-may_ease.true)

pub returns-then-may_ease : goal.returns-then-may_ease
returns-then-may_ease c =
    let a = c.args in
    let e = c.ease-eased in
    filled_so a.params a.«data».now a.togo a.c.now a.side.now c.new-side.result c.new-side.ensures c.stretch_of-n.result c.stretch_of-n.ensures e.result e.new.c e.new.side e.ensures c.left_of-left.result c.left_of-left.ensures

pub returns-else-may_ease : goal.returns-else-may_ease
returns-else-may_ease c =
    let a = c.args in
    unfilled_so a.params a.«data».now a.togo a.c.now a.side.now c.new-side.result c.new-side.ensures c.stretch_of-n.result c.stretch_of-n.ensures
