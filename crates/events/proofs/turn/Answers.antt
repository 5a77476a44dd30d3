-- `turn` meets its contract, by `turn_is`. Assumes nothing.
use Rattle.std.proofs.Common.{arith}
use Rattle.events.proofs.Turned.{turn_is}
use Rattle.events.proofs.turn.Goals as goal

pub returns : goal.returns
returns g c =
    let read = c.read_some-got in
    let moved = c.moved in
    turn_is c.args.run c.args.memory.now c.args.input.now read.new.input _ _ _ read.result _ _
    read.ensures.input_unchanged (omega (arith, read.ensures.result_in_bounds, read.auto.input))
    c.feed-fed.ensures (omega (arith, moved.ensures.upper_bound, moved.auto.input, read.ensures.result_in_bounds, read.auto.input)) moved.ensures.input_after
