-- The search from here on, with a step for each byte that is left, finds what the whole search does.
use mathlib.Core.Path.{◌≡◌}
use Prim.Native.Nat.{ℕ, ◌-◌, ◌≤◌}
use lib.ListN.{length}
use Rattle.smf.specs.Files.{track_from, track_at}
use Rattle.smf.proofs.chunks.track_at.Given as goal

abbrev pub invariant-loop-place : goal.invariant-loop-place
invariant-loop-place l = (n : ℕ) × (length l.file - l.place ≤ n) × (track_from n l.file l.place ≡ track_at l.file l.at)

abbrev pub decreases-loop-place : goal.decreases-loop-place
decreases-loop-place l = length l.file - l.place
