-- `Sampler::frames` meets its contract, by the laws of `Running`. Assumes nothing.
use Rattle.sampler.proofs.Running.{running_starts, running_room, running_steps, running_on, running_ends}
use borrow.Author.Rules.{rules}
use native.Mathlib.Omega.{arith}
use Rattle.sampler.proofs.Sampler.frames.Goals as goal

pub loop-init : goal.loop-init
loop-init c =
    running_starts c.args.params c.args.k c.args.self c.args.run.now c.args.memory.now c.requires

pub overflow_add-b : goal.overflow_add-b
overflow_add-b c = let room = running_room c.loop.invariant c.loop-test.true in search rules

pub offset_bounds-run-a : goal.offset_bounds-run-a
offset_bounds-run-a c = let room = running_room c.loop.invariant c.loop-test.true in search rules

pub slice_bounds-entries-count : goal.slice_bounds-entries-count
slice_bounds-entries-count c = omega arith

pub slice_bounds-entries-end : goal.slice_bounds-entries-end
slice_bounds-entries-end c = let room = running_room c.loop.invariant c.loop-test.true in search rules

pub entries-entered-requires : goal.entries-entered-requires
entries-entered-requires c = running_steps c.loop.invariant c.loop-test.true

pub loop-preserved : goal.loop-preserved
loop-preserved c =
    let r = c.entries-entered in
    running_on c.loop.invariant c.loop-test.true
    r.result.sampler r.new.frame r.new.memory r.ensures.frames r.auto.frame r.auto.memory

pub shape_of-run : goal.shape_of-run
shape_of-run c = c.loop.invariant.entries

pub shape_of-memory : goal.shape_of-memory
shape_of-memory c = c.loop.invariant.whole

pub returns : goal.returns
returns c = running_ends c.loop.invariant c.loop-test.false
