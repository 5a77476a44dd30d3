use mathlib.Core.Path.{◌≡◌}
use lib.ListN.{length}
use Rattle.events.specs.Feeds.{fed_of}
use Rattle.events.proofs.Turned.{Goes}
use Rattle.events.proofs.feeds.feed.Given as goal

abbrev pub invariant-loop-turns : goal.invariant-loop-turns
invariant-loop-turns l =
    (length l.memory ≡ length l.initial.memory) × (length l.out ≡ length l.initial.out) × Goes (fed_of l.last l.initial.fed.state l.initial.memory l.input) l.turns l.last l.input l.fed l.memory l.out

abbrev pub decreases-loop-turns : goal.decreases-loop-turns
decreases-loop-turns l = l.turns
