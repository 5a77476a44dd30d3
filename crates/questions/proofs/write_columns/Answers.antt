-- `write_columns` meets its contract: each turn begins where the last ended. Assumes nothing.
use mathlib.Core.Path.{refl, ap₂, ◌∙◌}
use lib.ListN.{length-set}
use lib.Ieee.{binary32, div}
use Rattle.questions.proofs.Filling.{filling_starts, from_start_on, inside, filling_goes_on, filling_ends}
use borrow.Author.Rules.{rules}
use Rattle.questions.proofs.write_columns.Goals as goal

pub loop-i-init : goal.loop-i-init
loop-i-init c =
    (filling_starts _ _ _ _ c.requires.1 c.requires.0 c.requires.2 (ap₂ (div binary32) c.usize_to_f32.ensures c.usize_to_f32-2.ensures), refl)

pub offset_bounds-recording-start : goal.offset_bounds-recording-start
offset_bounds-recording-start c =
    let w = c.loop-i.invariant.0 in
    let a = from_start_on w (search rules) _ c.cut-end.ensures in
    let b = inside w (search rules) _ c.cut-end.ensures in
    let f = w.few in
    search rules

pub slice_bounds-column-count : goal.slice_bounds-column-count
slice_bounds-column-count c = from_start_on c.loop-i.invariant.0 (search rules) _ c.cut-end.ensures

pub slice_bounds-column-start : goal.slice_bounds-column-start
slice_bounds-column-start c = from_start_on c.loop-i.invariant.0 (search rules) _ c.cut-end.ensures

pub slice_bounds-column-end : goal.slice_bounds-column-end
slice_bounds-column-end c = inside c.loop-i.invariant.0 (search rules) _ c.cut-end.ensures

pub bounds-list-i : goal.bounds-list-i
bounds-list-i c = let r = c.loop-i.invariant.0.room in search rules

pub loop-i-preserved : goal.loop-i-preserved
loop-i-preserved c =
    (filling_goes_on c.loop-i.invariant.0 (search rules) _ c.cut-end.ensures _ c.column.ensures, length-set c.loop-i.list c.loop-i.i c.column.result ∙ c.loop-i.invariant.1)

pub shape_of-list : goal.shape_of-list
shape_of-list c = c.loop-i.invariant.1

pub returns : goal.returns
returns c = filling_ends c.loop-i.invariant.0 c.loop-i-test.false
