-- `join` meets its contract. Assumes nothing.
use mathlib.Core.Path.{sym, ◌∙◌}
use mathlib.Core.List.{[]}
use native.Mathlib.Omega.{arith}
use Rattle.song_merge.proofs.Joins.{begins, first_true, left_stops, right_stops, over_stops, over_ends, left_again, right_again, left_less, right_less}
use Rattle.song_merge.proofs.merging.join.Goals as goal

pub loop-x-init : goal.loop-x-init
loop-x-init c = begins _ _ _ _ _ _ _ _ (c.look-x.ensures.cursor_placed, c.look-x.ensures.views) (c.look-y.ensures.cursor_placed, c.look-y.ensures.views)

pub overflow_sub-room : goal.overflow_sub-room
overflow_sub-room c = let g = c.loop-x.invariant in
    let within = g.within in
    let kept = g.kept in
    omega arith

pub overflow_sub-x : goal.overflow_sub-x
overflow_sub-x c = c.loop-x.invariant.left.up

pub overflow_add-x : goal.overflow_add-x
overflow_add-x c = let a = c.args in
    let l = c.loop-x in
    let first = first_true l.x.ended l.y.ended l.x.wait l.y.wait (sym c.goes_first.ensures ∙ c.if-goes_first.true) in
    let up = l.invariant.left.going first.0 in
    omega (arith, c.requires.0)

pub returns-then-room-w : goal.returns-then-room-w
returns-then-room-w c = let a = c.args in
    let l = c.loop-x in
    left_stops a.a.now a.a_end a.file.now a.at a.end a.out.now l.out l.x l.y l.w l.invariant (sym c.goes_first.ensures ∙ c.if-goes_first.true) (omega arith)

pub put_event-w-requires : goal.put_event-w-requires
put_event-w-requires c = let a = c.args in
    let l = c.loop-x in
    let within = l.invariant.within in
    let kept = l.invariant.kept in
    (l.invariant.left.small, l.invariant.left.up, omega arith)

pub look-x-requires-then-goes_first : goal.look-x-requires-then-goes_first
look-x-requires-then-goes_first c = omega (arith, c.requires.0)

pub loop-x-smaller-then-goes_first : goal.loop-x-smaller-then-goes_first
loop-x-smaller-then-goes_first c = let a = c.args in
    let l = c.loop-x in
    left_less a.a.now a.a_end a.file.now a.at a.end a.out.now l.out l.x l.y l.w l.invariant c.look-x-then-goes_first.result c.waited-y.result 0 [] (sym c.goes_first.ensures ∙ c.if-goes_first.true) c.waited-y.ensures c.look-x-then-goes_first.ensures.cursor_placed

pub loop-x-preserved-then-goes_first : goal.loop-x-preserved-then-goes_first
loop-x-preserved-then-goes_first c = let a = c.args in
    let l = c.loop-x in
    let within = l.invariant.within in
    let kept = l.invariant.kept in
    left_again a.a.now a.a_end a.file.now a.at a.end a.out.now l.out l.x l.y l.w l.invariant c.look-x-then-goes_first.result c.waited-y.result _ _ (sym c.goes_first.ensures ∙ c.if-goes_first.true) (omega arith) c.put_event-w.ensures.value c.put_event-w.ensures.out_after c.waited-y.ensures (c.look-x-then-goes_first.ensures.cursor_placed, c.look-x-then-goes_first.ensures.views)

pub overflow_sub-room-then-y : goal.overflow_sub-room-then-y
overflow_sub-room-then-y c = let g = c.loop-x.invariant in
    let within = g.within in
    let kept = g.kept in
    omega arith

pub returns-then-room-w-lt7 : goal.returns-then-room-w-lt7
returns-then-room-w-lt7 c = let a = c.args in
    let l = c.loop-x in
    over_stops a.a.now a.a_end a.file.now a.at a.end a.out.now l.out l.x l.y l.w l.invariant (sym c.goes_first.ensures ∙ c.if-goes_first.false) c.if-y.true (omega arith)

pub put_end-requires : goal.put_end-requires
put_end-requires c = let a = c.args in
    let l = c.loop-x in
    let within = l.invariant.within in
    let kept = l.invariant.kept in
    let x_small = l.invariant.left.small in
    let y_small = l.invariant.right.small in
    (omega (arith, c.max.ensures), omega arith)

pub returns-then-y : goal.returns-then-y
returns-then-y c = let a = c.args in
    let l = c.loop-x in
    let within = l.invariant.within in
    let kept = l.invariant.kept in
    over_ends a.a.now a.a_end a.file.now a.at a.end a.out.now l.out l.x l.y l.w l.invariant (sym c.goes_first.ensures ∙ c.if-goes_first.false) c.if-y.true (omega arith) _ c.max.ensures _ _ c.put_end.ensures.value c.put_end.ensures.out_after

pub overflow_sub-room-else-y : goal.overflow_sub-room-else-y
overflow_sub-room-else-y c = let g = c.loop-x.invariant in
    let within = g.within in
    let kept = g.kept in
    omega arith

pub overflow_sub-y : goal.overflow_sub-y
overflow_sub-y c = c.loop-x.invariant.right.up

pub overflow_add-y : goal.overflow_add-y
overflow_add-y c = let a = c.args in
    let l = c.loop-x in
    let up = l.invariant.right.going c.if-y.false in
    omega (arith, c.requires.1)

pub returns-then-room-w-2 : goal.returns-then-room-w-2
returns-then-room-w-2 c = let a = c.args in
    let l = c.loop-x in
    right_stops a.a.now a.a_end a.file.now a.at a.end a.out.now l.out l.x l.y l.w l.invariant c.if-y.false (omega arith)

pub put_event-w-requires-else-y : goal.put_event-w-requires-else-y
put_event-w-requires-else-y c = let a = c.args in
    let l = c.loop-x in
    let within = l.invariant.within in
    let kept = l.invariant.kept in
    (l.invariant.right.small, l.invariant.right.up, omega arith)

pub look-y-requires-else-y : goal.look-y-requires-else-y
look-y-requires-else-y c = omega (arith, c.requires.1)

pub loop-x-smaller : goal.loop-x-smaller
loop-x-smaller c = let a = c.args in
    let l = c.loop-x in
    right_less a.a.now a.a_end a.file.now a.at a.end a.out.now l.out l.x l.y l.w l.invariant c.waited-x.result c.look-y-else-y.result 0 [] c.if-y.false c.waited-x.ensures c.look-y-else-y.ensures.cursor_placed

pub loop-x-preserved : goal.loop-x-preserved
loop-x-preserved c = let a = c.args in
    let l = c.loop-x in
    let within = l.invariant.within in
    let kept = l.invariant.kept in
    right_again a.a.now a.a_end a.file.now a.at a.end a.out.now l.out l.x l.y l.w l.invariant c.waited-x.result c.look-y-else-y.result _ _ (sym c.goes_first.ensures ∙ c.if-goes_first.false) c.if-y.false (omega arith) c.put_event-w-else-y.ensures.value c.put_event-w-else-y.ensures.out_after c.waited-x.ensures (c.look-y-else-y.ensures.cursor_placed, c.look-y-else-y.ensures.views)
