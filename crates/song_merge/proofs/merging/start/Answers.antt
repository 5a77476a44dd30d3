-- `start` meets its contract. Assumes nothing.
use native.Mathlib.Omega.{arith}
use Rattle.song_merge.proofs.Tracks.{started, not_started}
use Rattle.song_merge.proofs.merging.start.Goals as goal

pub returns-then-out-lt29 : goal.returns-then-out-lt29
returns-then-out-lt29 c = not_started _ (omega arith)

pub returns : goal.returns
returns c = started _ _ _ (omega arith) c.put_end.ensures.value c.put_end.ensures.out_after
