-- What is left of the list, played from here on, gives what the whole does. Assumes nothing.
use Rattle.songs.proofs.Dues.{Going}
use Rattle.lent_songs.proofs.play.Given as goal

abbrev pub invariant-loop-place : goal.invariant-loop-place
invariant-loop-place l = Going l.initial.s l.list l.next l.at l.params l.end l.s l.place l.refused
