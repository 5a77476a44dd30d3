use Rattle.std.proofs.Common.{◌≡◌, ◌≤◌, ◌<◌, ◌-◌, length}
use Rattle.lent_channel.proofs.Besides.{beside_upto}
use Rattle.lent_channel.proofs.beside.Given as goal

abbrev pub invariant-loop-k : goal.invariant-loop-k
invariant-loop-k l = record {
  upto : l.k ≤ l.n;
  long : 0 < l.k → length l.c.table ≡ 8;
  so_far : l.b ≡ beside_upto l.c.head l.c.table l.capacity l.k;
}
