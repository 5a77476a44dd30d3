use mathlib.Core.Path.{◌≡◌}
use Prim.Native.Nat.{ℕ, ◌≤◌}
use lib.ListN.{get_or}
use Rattle.pours.specs.Steady.{Fetches}
use Rattle.pours.proofs.fetch.Given as goal

abbrev pub invariant-loop-k : goal.invariant-loop-k
invariant-loop-k l = (l.k ≤ l.n) × Fetches l.data l.played l.by l.k l.initial.values l.values (record { index = l.index; played = l.sum }) × ((j : ℕ) → l.k ≤ j → get_or l.values j 0 ≡ get_or l.initial.values j 0)
