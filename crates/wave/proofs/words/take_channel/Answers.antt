-- `take_channel` meets its contract. The invariant: the samples up to here are stored. Assumes nothing.
use mathlib.Core.Path.{◌≡◌, refl, sym, ◌∙◌}
use Prim.Native.Nat.{◌+◌, ◌*◌}
use native.Mathlib.Omega.{arith}
use Rattle.wave.specs.Fields.{listed}
use Rattle.wave.proofs.FieldBytes.{four_is}
use Rattle.wave.proofs.Layouts.{frame_below}
use Rattle.wave.proofs.Copies.{word_at, stored_next, stored_length}
use Rattle.wave.proofs.words.take_channel.Goals as goal

pub loop-i-init : goal.loop-i-init
unfolding listed
loop-i-init c = record { within = omega arith; is_stored = refl }

pub overflow_mul-at : goal.overflow_mul-at
overflow_mul-at c = let below = frame_below _ _ _ _ c.loop-i-test.true c.requires.j_lt_channels.0 in omega arith

pub overflow_add-at : goal.overflow_add-at
overflow_add-at c = let below = frame_below _ _ _ _ c.loop-i-test.true c.requires.j_lt_channels.0 in omega arith

pub overflow_mul-at-in-loop-i : goal.overflow_mul-at-in-loop-i
overflow_mul-at-in-loop-i c = let below = frame_below _ _ _ _ c.loop-i-test.true c.requires.j_lt_channels.0 in omega arith

pub overflow_add-at-in-loop-i : goal.overflow_add-at-in-loop-i
overflow_add-at-in-loop-i c = let below = frame_below _ _ _ _ c.loop-i-test.true c.requires.j_lt_channels.0 in omega arith

pub overflow_add-to : goal.overflow_add-to
overflow_add-to c = omega arith

pub bounds-file-at : goal.bounds-file-at
bounds-file-at c = let below = frame_below _ _ _ _ c.loop-i-test.true c.requires.j_lt_channels.0 in omega arith

pub overflow_add-at-in-loop-i-2 : goal.overflow_add-at-in-loop-i-2
overflow_add-at-in-loop-i-2 c = let below = frame_below _ _ _ _ c.loop-i-test.true c.requires.j_lt_channels.0 in omega arith

pub bounds-file-at-in-loop-i : goal.bounds-file-at-in-loop-i
bounds-file-at-in-loop-i c = let below = frame_below _ _ _ _ c.loop-i-test.true c.requires.j_lt_channels.0 in omega arith

pub overflow_add-at-in-loop-i-3 : goal.overflow_add-at-in-loop-i-3
overflow_add-at-in-loop-i-3 c = let below = frame_below _ _ _ _ c.loop-i-test.true c.requires.j_lt_channels.0 in omega arith

pub bounds-file-at-in-loop-i-2 : goal.bounds-file-at-in-loop-i-2
bounds-file-at-in-loop-i-2 c = let below = frame_below _ _ _ _ c.loop-i-test.true c.requires.j_lt_channels.0 in omega arith

pub overflow_add-at-in-loop-i-4 : goal.overflow_add-at-in-loop-i-4
overflow_add-at-in-loop-i-4 c = let below = frame_below _ _ _ _ c.loop-i-test.true c.requires.j_lt_channels.0 in omega arith

pub bounds-file-at-in-loop-i-3 : goal.bounds-file-at-in-loop-i-3
bounds-file-at-in-loop-i-3 c = let below = frame_below _ _ _ _ c.loop-i-test.true c.requires.j_lt_channels.0 in omega arith

pub offset_bounds-memory-to : goal.offset_bounds-memory-to
offset_bounds-memory-to c = let kept = stored_length _ _ _ _ _ c.loop-i.invariant.is_stored in omega arith

pub bounds-memory-to : goal.bounds-memory-to
bounds-memory-to c = let kept = stored_length _ _ _ _ _ c.loop-i.invariant.is_stored in omega arith

pub loop-i-preserved : goal.loop-i-preserved
loop-i-preserved c =
    let a = c.args in
    let below = frame_below a.w.channels a.w.samples c.loop-i.i a.j c.loop-i-test.true c.requires.j_lt_channels.0 in
    let k = c.loop-i.i * a.w.channels + a.j in
    record { within = omega arith; is_stored = stored_next _ _ _ _ _ _ c.loop-i.invariant.is_stored (c.little_four.ensures ∙ four_is a.file.now (a.w.first + 4 * k) ∙ sym (word_at a.file.now a.w k below)) }

pub returns : goal.returns
returns c =
    let all : c.loop-i.i ≡ c.args.w.samples = omega arith in
    c.loop-i.invariant.is_stored ∙ rw all
