-- The walk from here on, with a step for each byte that is left, meets what the whole walk does.
use mathlib.Core.Path.{◌≡◌}
use Prim.Native.Nat.{ℕ, ◌-◌, ◌≤◌}
use lib.ListN.{length}
use Rattle.wave.specs.Reader.{walk_from, walk_of}
use Rattle.wave.proofs.chunks.walk.Given as goal

abbrev pub invariant-loop-at : goal.invariant-loop-at
invariant-loop-at l = (n : ℕ) × (length l.file - l.at ≤ n) × (walk_from n l.file l.at l.places ≡ walk_of l.file)

abbrev pub decreases-loop-at : goal.decreases-loop-at
decreases-loop-at l = length l.file - l.at
