use Rattle.std.proofs.Common.{◌≡◌, ◌≤◌, ◌-◌, true}
use Rattle.lent_channel.proofs.Besides.{table_upto}
use Rattle.lent_channel.proofs.good_pairs.Given as goal

abbrev pub invariant-loop-k : goal.invariant-loop-k
invariant-loop-k l = record {
  upto : l.k ≤ l.n;
  so_far : table_upto l.c.head l.c.table l.capacity l.k ≡ true;
}
