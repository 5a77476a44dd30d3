use Rattle.std.proofs.Common.{◌≡◌, ◌≤◌, ◌-◌, true}
use Rattle.phrases.specs.Phrases.{reach_below, is_in_order}
use Rattle.channel.specs.Tables.{with_recording}
use Rattle.lent_channel.proofs.in_order.Given as goal

abbrev pub invariant-loop-k : goal.invariant-loop-k
invariant-loop-k l = record {
  upto : l.k ≤ l.n;
  reach : l.upto ≡ reach_below (with_recording l.c.head l.c.table) l.k;
  so_far : is_in_order l.capacity (with_recording l.c.head l.c.table) l.k ≡ true;
}
