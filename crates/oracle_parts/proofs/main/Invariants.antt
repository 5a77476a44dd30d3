use Rattle.std.proofs.Common.{◌≡◌, []}
use Rattle.oracle_parts.proofs.main.Given as goal

abbrev pub invariant-loop : goal.invariant-loop
invariant-loop l = l.out ≡ []
