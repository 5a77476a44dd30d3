-- The frames up to here are written (`Copies: written_to`).
use mathlib.Core.Path.{◌≡◌}
use Prim.Native.Nat.{◌≤◌}
use Rattle.wave.proofs.Copies.{written_to}
use Rattle.wave.proofs.words.put_words.Given as goal

abbrev pub invariant-loop-i : goal.invariant-loop-i
invariant-loop-i l = record {
  within : l.i ≤ l.l.samples;
  is_written : l.out ≡ written_to l.l l.memory l.initial.out l.i;
}
