-- `play` meets its contract. The invariant: what is left of the list, played from here on, gives what the whole does. Assumes nothing.
use Rattle.std.proofs.Common.{◌-◌, arith, rules}
use Rattle.songs.proofs.Dues.{Going, begins, here, no_wrap, goes_on, over}
use Rattle.songs.proofs.play.Goals as goal

pub loop-place-init : goal.loop-place-init
loop-place-init c = begins _ _ _ _ _ _ c.due-end.ensures

pub overflow_mul-place : goal.overflow_mul-place
overflow_mul-place c = let inside = here c.loop-place.invariant c.loop-place-test.true in omega (arith, inside.0)

pub offset_bounds-list-place : goal.offset_bounds-list-place
offset_bounds-list-place c = let inside = here c.loop-place.invariant c.loop-place-test.true in omega (arith, inside.0)

pub bounds-list-place : goal.bounds-list-place
bounds-list-place c = let inside = here c.loop-place.invariant c.loop-place-test.true in omega (arith, inside.0)

pub overflow_mul-place-in-loop-place : goal.overflow_mul-place-in-loop-place
overflow_mul-place-in-loop-place c = let inside = here c.loop-place.invariant c.loop-place-test.true in omega (arith, inside.0)

pub overflow_add-place : goal.overflow_add-place
overflow_add-place c = let inside = here c.loop-place.invariant c.loop-place-test.true in omega (arith, inside.0)

pub offset_bounds-list-place-in-loop-place : goal.offset_bounds-list-place-in-loop-place
offset_bounds-list-place-in-loop-place c = let inside = here c.loop-place.invariant c.loop-place-test.true in omega (arith, inside.0)

pub bounds-list-place-in-loop-place : goal.bounds-list-place-in-loop-place
bounds-list-place-in-loop-place c = let inside = here c.loop-place.invariant c.loop-place-test.true in omega (arith, inside.0)

pub loop-place-preserved : goal.loop-place-preserved
loop-place-preserved c =
    let g = c.loop-place.invariant in
    let more = c.loop-place-test.true in
    rw (c.one_more-refused.ensures, no_wrap g more (omega arith) c.changed-answer.result.done)
    (goes_on g more c.changed-answer.result (simp (c.changed-answer.ensures, c.change_of.ensures, c.new-cue.ensures)))

pub returns : goal.returns
returns c = over c.loop-place.invariant c.loop-place-test.false
