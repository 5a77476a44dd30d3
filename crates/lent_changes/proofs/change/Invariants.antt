use Rattle.std.proofs.Common.{◌≡◌, ◌≤◌}
use Rattle.lent_changes.proofs.Goings.{begins, Goes}
use Rattle.lent_changes.proofs.change.Given as goal

abbrev pub invariant-loop-i : goal.invariant-loop-i
invariant-loop-i l = record {
  turns : l.n ≡ (begins l.fn.change l.fn.c).turns;
  few : l.n ≤ 32;
  goes : Goes l.fn.change l.fn.c l.c l.p l.i;
}
