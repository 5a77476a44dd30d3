use Rattle.std.proofs.Common.{◌≡◌, ◌+◌, ◌-◌, refl, arith}
use Rattle.songs.proofs.Dues.{dues_from, dues_over, dues_none, dues_next}
use Rattle.songs.proofs.due.Given as goal

abbrev pub invariant-loop-place : goal.invariant-loop-place
invariant-loop-place l = l.place + dues_from l.list l.at l.place ≡ l.next + dues_from l.list l.at l.next
