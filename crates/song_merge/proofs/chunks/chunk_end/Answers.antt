-- `chunk_end` meets its contract. Assumes nothing.
use native.Mathlib.Omega.{arith}
use Rattle.song_merge.proofs.Tracks.{no_chunk, a_chunk, a_broken}
use Rattle.song_merge.proofs.chunks.chunk_end.Goals as goal

pub returns-then-all-at-lt8 : goal.returns-then-all-at-lt8
returns-then-all-at-lt8 c = no_chunk _ _ (omega arith)

pub returns-then-all-full : goal.returns-then-all-full
returns-then-all-full c = no_chunk _ _ (let is = c.four_at.ensures in omega arith)

pub returns-then-whole : goal.returns-then-whole
returns-then-whole c = let a = c.args in
    let is = c.four_at.ensures in
    a_chunk a.file.now a.at _ (omega arith) _ c.whole.ensures (omega arith) c.if-whole.true

pub returns-else-whole : goal.returns-else-whole
returns-else-whole c = let a = c.args in
    let is = c.four_at.ensures in
    a_broken a.file.now a.at _ (omega arith) _ c.whole.ensures c.if-whole.false
