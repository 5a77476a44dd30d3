-- The digits of the rest, stored now, give the whole number.
use mathlib.Core.Path.{◌≡◌}
use Prim.Native.Nat.{◌+◌, ◌≤◌}
use lib.ListN.{length}
use lib.Seq.{sets}
use Rattle.decimal.specs.Decimal.{decimal}
use Rattle.decimal.proofs.writing.write_decimal.Given as goal

abbrev pub invariant-loop-rest : goal.invariant-loop-rest
invariant-loop-rest l = record {
  reached : l.place ≡ l.at + length (decimal l.rest);
  within : l.place ≤ length l.initial.text;
  same_length : length l.text ≡ length l.initial.text;
  is_whole : sets l.text l.at (decimal l.rest) ≡ sets l.initial.text l.at (decimal l.n);
}

abbrev pub decreases-loop-rest : goal.decreases-loop-rest
decreases-loop-rest l = l.rest
