-- `put_frame` meets its contract. Assumes nothing.
use native.Mathlib.Omega.{arith}
use Rattle.wave.proofs.Layouts.{framed}
use Rattle.wave.proofs.Copies.{frame_one, frame_two}
use Rattle.wave.proofs.words.put_frame.Goals as goal

pub overflow_mul-at : goal.overflow_mul-at
overflow_mul-at c = let frame = framed _ _ _ c.requires.memory_value c.requires.i_lt_samples in omega arith

pub overflow_mul-at-2 : goal.overflow_mul-at-2
overflow_mul-at-2 c = let frame = framed _ _ _ c.requires.memory_value c.requires.i_lt_samples in omega arith

pub overflow_add-at : goal.overflow_add-at
overflow_add-at c = let frame = framed _ _ _ c.requires.memory_value c.requires.i_lt_samples in omega arith

pub overflow_add-first : goal.overflow_add-first
overflow_add-first c = let frame = framed _ _ _ c.requires.memory_value c.requires.i_lt_samples in omega arith

pub offset_bounds-memory-first : goal.offset_bounds-memory-first
offset_bounds-memory-first c = let frame = framed _ _ _ c.requires.memory_value c.requires.i_lt_samples in omega arith

pub bounds-memory-first : goal.bounds-memory-first
bounds-memory-first c = let frame = framed _ _ _ c.requires.memory_value c.requires.i_lt_samples in omega arith

pub put_four-requires : goal.put_four-requires
put_four-requires c = let frame = framed _ _ _ c.requires.memory_value c.requires.i_lt_samples in omega arith

pub overflow_add-second : goal.overflow_add-second
overflow_add-second c = let inside = (framed _ _ _ c.requires.memory_value c.requires.i_lt_samples).second_inside c.if-l-eq2.true in omega arith

pub overflow_add-at-then-l-eq2 : goal.overflow_add-at-then-l-eq2
overflow_add-at-then-l-eq2 c = let frame = framed _ _ _ c.requires.memory_value c.requires.i_lt_samples in omega arith

pub offset_bounds-memory-second : goal.offset_bounds-memory-second
offset_bounds-memory-second c = let inside = (framed _ _ _ c.requires.memory_value c.requires.i_lt_samples).second_inside c.if-l-eq2.true in omega arith

pub bounds-memory-second : goal.bounds-memory-second
bounds-memory-second c = let inside = (framed _ _ _ c.requires.memory_value c.requires.i_lt_samples).second_inside c.if-l-eq2.true in omega arith

pub put_four-requires-then-l-eq2 : goal.put_four-requires-then-l-eq2
put_four-requires-then-l-eq2 c = let frame = framed _ _ _ c.requires.memory_value c.requires.i_lt_samples in let two = c.if-l-eq2.true in omega (arith, c.put_four.auto.out)

pub returns-then-l-eq2 : goal.returns-then-l-eq2
returns-then-l-eq2 c =
    let a = c.args in
    frame_two a.l a.memory.now a.out.now a.i c.if-l-eq2.true c.put_four.ensures c.put_four-then-l-eq2.ensures

pub returns-else-l-eq2 : goal.returns-else-l-eq2
returns-else-l-eq2 c =
    let a = c.args in
    let frame = framed _ _ _ c.requires.memory_value c.requires.i_lt_samples in
    frame_one a.l a.memory.now a.out.now a.i (omega (arith, c.if-l-eq2.false)) c.put_four.ensures
