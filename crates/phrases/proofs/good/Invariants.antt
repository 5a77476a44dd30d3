use Rattle.std.proofs.Common.{◌≡◌, ◌≤◌}
use Rattle.phrases.specs.Phrases.{every_below, good_at}
use Rattle.phrases.proofs.good.Given as goal

abbrev pub invariant-loop-i : goal.invariant-loop-i
invariant-loop-i l = (l.i ≤ 8) × (l.ok ≡ every_below l.i (good_at l.capacity l.all))
