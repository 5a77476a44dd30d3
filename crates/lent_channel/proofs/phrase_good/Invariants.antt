use Rattle.std.proofs.Common.{◌≡◌, ◌≤◌, ◌-◌}
use Rattle.lent_channel.proofs.Besides.{good_upto}
use Rattle.lent_channel.proofs.phrase_good.Given as goal

abbrev pub invariant-loop-j : goal.invariant-loop-j
invariant-loop-j l = record {
  upto : l.j ≤ l.k;
  so_far : l.ok ≡ good_upto l.c.head l.c.table l.capacity l.k l.j;
}
