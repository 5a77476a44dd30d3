use Prim.Native.Nat.{◌-◌}
use Rattle.song_merge.proofs.Tracks.{Walks}
use Rattle.song_merge.proofs.chunks.whole.Given as goal

abbrev pub invariant-loop-next : goal.invariant-loop-next
invariant-loop-next l = Walks l.file l.end l.at l.running l.place

abbrev pub decreases-loop-next : goal.decreases-loop-next
decreases-loop-next l = l.end - l.place
