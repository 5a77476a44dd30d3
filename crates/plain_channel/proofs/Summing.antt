-- A side with other sums and values. Assumes nothing.
use Prim.Native.Nat.{ℕ}
use mathlib.Core.List.{List}
use lib.Ieee.{Float}
use Rattle.plain_channel.specs.declared.Side.{Side}
use Rattle.plain_channel.proofs.Filling.{with_pour}

abbrev pub with_sums : List Float → List ℕ → Side → Side
with_sums zs us k = with_pour (record { sums = zs; values = us; eased = k.pour.eased; next = k.pour.next; left = k.pour.left }) k
