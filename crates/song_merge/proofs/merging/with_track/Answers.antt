-- `with_track` meets its contract. Assumes nothing.
use native.Mathlib.Omega.{arith}
use Rattle.song_merge.proofs.Tracks.{none_before, no_join, no_place, grows}
use Rattle.song_merge.proofs.merging.with_track.Goals as goal

pub returns-then-end-eq0 : goal.returns-then-end-eq0
returns-then-end-eq0 c = let a = c.args in
    none_before a.out.now a.end a.file.now a.at a.full _ a.out.now (omega arith)

pub returns-then-size-eq0 : goal.returns-then-size-eq0
returns-then-size-eq0 c = let a = c.args in
    no_join a.out.now a.end a.file.now a.at a.full _ c.join-size.new.out c.join-size.result c.join-size.ensures c.join-size.auto.out a.out.now (omega arith)

pub overflow_sub-out : goal.overflow_sub-out
overflow_sub-out c = let low = c.requires.2 (omega arith) in
    omega arith

pub returns-then-out-size : goal.returns-then-out-size
returns-then-out-size c = let a = c.args in
    no_place a.out.now a.end a.file.now a.at a.full _ c.join-size.new.out c.join-size.result c.join-size.ensures c.join-size.auto.out a.out.now (omega arith)

pub returns : goal.returns
returns c = let a = c.args in
    grows a.out.now a.end a.file.now a.at a.full _ c.join-size.new.out c.join-size.result c.join-size.ensures c.join-size.auto.out _ (omega arith) (omega arith) (omega arith) c.copy.ensures
