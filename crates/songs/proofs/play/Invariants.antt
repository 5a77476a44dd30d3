use Rattle.std.proofs.Common.{◌-◌, arith, rules}
use Rattle.songs.proofs.Dues.{Going, begins, here, no_wrap, goes_on, over}
use Rattle.songs.proofs.play.Given as goal

abbrev pub invariant-loop-place : goal.invariant-loop-place
invariant-loop-place l = Going l.initial.sampler l.list l.next l.at l.params l.end l.sampler l.place l.refused
