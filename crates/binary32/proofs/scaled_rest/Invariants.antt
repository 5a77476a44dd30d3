use Rattle.std.proofs.Common.{◌≡◌, ◌*◌, ◌%◌, ◌^◌, ◌<◌}
use Rattle.binary32.proofs.scaled_rest.Given as goal

abbrev pub invariant-loop-more : goal.invariant-loop-more
invariant-loop-more l = (l.left < l.by) × (l.left * 2 ^ l.more % l.by ≡ l.m * 2 ^ l.places % l.by)

abbrev pub decreases-loop-more : goal.decreases-loop-more
decreases-loop-more l = l.more
