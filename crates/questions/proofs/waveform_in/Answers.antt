-- `waveform_in` meets its contract: the table's rows in its order, and then the columns of the recording's stretch of the memory. Assumes nothing.
use mathlib.Core.Path.{sym, ap, ◌∙◌}
use lib.Ieee.{of_bits}
use Rattle.questions.proofs.Summaries.{ends_inside, end_few, asked_for, room_left, taken_count, summary_done}
use Rattle.refusals.specs.Refusals.{code_of}
use borrow.Author.Rules.{rules}
use Rattle.questions.proofs.waveform_in.Goals as goal

pub overflow_add-end : goal.overflow_add-end
overflow_add-end c =
    let a = c.args in
    let few = end_few a.t a.columns a.list.now a.memory.now (ap code_of (sym c.waveform_judged.ensures ∙ c.in_ok-waveform_judged.was)) in
    search rules

pub offset_bounds-memory-start : goal.offset_bounds-memory-start
offset_bounds-memory-start c =
    let a = c.args in
    let few = end_few a.t a.columns a.list.now a.memory.now (ap code_of (sym c.waveform_judged.ensures ∙ c.in_ok-waveform_judged.was)) in
    search rules

pub slice_bounds-write_columns-end : goal.slice_bounds-write_columns-end
slice_bounds-write_columns-end c =
    let a = c.args in
    ends_inside a.t a.columns a.list.now a.memory.now (ap code_of (sym c.waveform_judged.ensures ∙ c.in_ok-waveform_judged.was))

pub write_columns-requires : goal.write_columns-requires
write_columns-requires c =
    let a = c.args in
    asked_for a.t a.columns a.list.now a.memory.now (ap code_of (sym c.waveform_judged.ensures ∙ c.in_ok-waveform_judged.was))

pub slice_bounds-largest-end : goal.slice_bounds-largest-end
slice_bounds-largest-end c =
    let a = c.args in
    room_left a.t a.columns a.list.now a.memory.now (ap code_of (sym c.waveform_judged.ensures ∙ c.in_ok-waveform_judged.was)) _ c.write_columns.ensures

pub slice_bounds-largest-end-2 : goal.slice_bounds-largest-end-2
slice_bounds-largest-end-2 c =
    let a = c.args in
    taken_count a.t a.columns a.list.now a.memory.now (ap code_of (sym c.waveform_judged.ensures ∙ c.in_ok-waveform_judged.was)) _ c.write_columns.ensures

pub returns : goal.returns
unfolding of_bits
returns c =
    let a = c.args in
    let is = summary_done a.t a.columns a.list.now a.memory.now (ap code_of (sym c.waveform_judged.ensures ∙ c.in_ok-waveform_judged.was)) _ c.write_columns.ensures _ c.largest.ensures in
    record { value = is.0; list_after = is.1 }
