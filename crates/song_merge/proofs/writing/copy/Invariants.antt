-- The bytes up to here are copied.
use mathlib.Core.Path.{◌≡◌}
use Prim.Native.Nat.{◌≤◌}
use lib.Seq.{sets}
use Rattle.octets.specs.Octets.{bytes_at}
use Rattle.song_merge.proofs.writing.copy.Given as goal

abbrev pub invariant-loop-i : goal.invariant-loop-i
invariant-loop-i l = record {
  within : l.i ≤ l.size;
  is_copied : l.out ≡ sets l.initial.out l.at (bytes_at l.i l.list l.from);
}
