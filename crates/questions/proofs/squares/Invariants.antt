use mathlib.Core.List.{List, map}
use Prim.Native.Nat.{ℕ}
use lib.ListN.{length}
use Rattle.binary32.specs.Leaves.{float_of}
use Rattle.std.specs.List.{fold}
use Rattle.walks.proofs.Lists.Loops.{Walk}
use Rattle.questions.specs.Waveforms.{with_square, squares_of}
use Rattle.questions.proofs.squares.Given as goal

abbrev pub invariant-loop-bits : goal.invariant-loop-bits
invariant-loop-bits l = Walk (squares_of (map float_of l.samples)) (λ (xs : List ℕ). fold with_square l.total (map float_of xs)) l.samples (length l.samples) l.bits-index
