use Rattle.std.proofs.Common.{◌≡◌, ◌<◌, ◌≤◌, IfSome}
use Rattle.phrases.specs.Gathering.{first_below}
use Rattle.phrases.proofs.first_from.Given as goal

abbrev pub invariant-loop-i : goal.invariant-loop-i
invariant-loop-i l = (l.i ≤ 8) × (l.found ≡ first_below l.place l.all l.i) × IfSome l.found (λ k. k < 8)
