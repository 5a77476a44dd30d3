-- `later` meets its contract. What is carried on is `Frames: carries`. Assumes nothing.
use Prim.Native.Nat.{◌+◌, ◌*◌, ◌%◌}
use native.Mathlib.Nat.{div-le_self}
use native.Mathlib.Omega.{arith}
use Rattle.smf.proofs.Frames.{stands, carries_late, carries, product, part_small, frames_small}
use Prim.Native.Nat.{◌+◌, ◌*◌, ◌%◌}
use native.Mathlib.Nat.{div-le_self}
use native.Mathlib.Omega.{arith}
use Rattle.smf.proofs.Frames.{stands, carries_late, carries, product, part_small, frames_small}
use Rattle.smf.proofs.clock.later.Goals as goal

pub returns-then-clock-gt-LAST_FRAME : goal.returns-then-clock-gt-LAST_FRAME
returns-then-clock-gt-LAST_FRAME c = λ total e. stands _ (omega arith) _ total _ e c.if-clock-gt-LAST_FRAME.true

pub overflow_mul-sum : goal.overflow_mul-sum
overflow_mul-sum c = record { fits = product _ _ (omega arith) (omega arith) }

pub overflow_mul-part : goal.overflow_mul-part
overflow_mul-part c = let h = part_small c.args.tune.unit c.args.tune.rate (c.args.delta * c.args.tempo) (omega arith) (omega arith) (omega arith) in omega arith

pub overflow_add-part : goal.overflow_add-part
overflow_add-part c = let h = part_small c.args.tune.unit c.args.tune.rate (c.args.delta * c.args.tempo) (omega arith) (omega arith) (omega arith) in omega arith

pub overflow_mul-frames : goal.overflow_mul-frames
overflow_mul-frames c = let h = frames_small c.args.tune.unit c.args.tune.rate (c.args.delta * c.args.tempo) (omega arith) (omega arith) (omega arith) (product _ _ (omega arith) (omega arith)) in omega arith

pub overflow_add-frames : goal.overflow_add-frames
overflow_add-frames c = let h = frames_small c.args.tune.unit c.args.tune.rate (c.args.delta * c.args.tempo) (omega arith) (omega arith) (omega arith) (product _ _ (omega arith) (omega arith)) in omega arith

pub overflow_add-frames-2 : goal.overflow_add-frames-2
overflow_add-frames-2 c = let a = c.args.delta * c.args.tempo in
    let h = part_small c.args.tune.unit c.args.tune.rate a (omega arith) (omega arith) (omega arith) in
    let k = frames_small c.args.tune.unit c.args.tune.rate a (omega arith) (omega arith) (omega arith) (product _ _ (omega arith) (omega arith)) in
    omega (arith, div-le_self (a % c.args.tune.unit * c.args.tune.rate + c.args.clock.rest) c.args.tune.unit)

pub returns-then-frames-gt-LAST_FRAME : goal.returns-then-frames-gt-LAST_FRAME
returns-then-frames-gt-LAST_FRAME c = λ total e. carries_late _ (omega arith) _ total _ _ e c.if-clock-gt-LAST_FRAME.false c.if-frames-gt-LAST_FRAME.true

pub returns : goal.returns
returns c = λ total e. carries _ (omega arith) _ total _ _ e c.if-clock-gt-LAST_FRAME.false c.if-frames-gt-LAST_FRAME.false
