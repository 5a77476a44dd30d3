use Prim.Native.Nat.{◌+◌}
use Rattle.song_merge.proofs.Joins.{Going, left_of}
use Rattle.song_merge.proofs.merging.join.Given as goal

abbrev pub invariant-loop-x : goal.invariant-loop-x
invariant-loop-x l = Going l.a l.a_end l.file l.at l.end l.initial.out l.out l.x l.y l.w

abbrev pub decreases-loop-x : goal.decreases-loop-x
decreases-loop-x l = left_of l.a_end l.x + left_of l.end l.y
