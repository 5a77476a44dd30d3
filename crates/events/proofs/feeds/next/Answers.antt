-- `next` meets its contract, by `one_is`. Assumes nothing.
use mathlib.Core.Path.{◌∙◌}
use Prim.Native.Nat.{◌+◌, ◌-◌}
use lib.ListN.{take, drop}
use Rattle.events.proofs.Turned.{one_is, as_record}
use Rattle.events.proofs.feeds.next.Goals as goal

pub returns : goal.returns
returns c =
    let a = c.args in
    let is = as_record a.fed.state a.memory.now (take (a.fed.used + c.part.result - a.fed.used) (drop a.fed.used a.input.now)) c.requires.opened_value in
    one_is a.fed a.input.now a.memory.now a.out.now c.part.result c.requires.used_in_bounds (rw c.requires.opened_value c.part.ensures) _ _ _ _
    (c.step-step.ensures.value ∙ is.0) (c.step-step.ensures.memory_after ∙ is.1) c.played.ensures
