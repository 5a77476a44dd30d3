use mathlib.Core.Path.{◌≡◌}
use Prim.Native.Nat.{◌≤◌}
use Rattle.walks.proofs.Lists.Loops.{Walk}
use Rattle.channel.specs.Channels.{with_voices, live, turning_in}
use Rattle.channel.proofs.Turns.{rest_of, tidied_from}
use Rattle.channel.proofs.Channel.play.Given as goal

abbrev pub invariant-loop-i : goal.invariant-loop-i
invariant-loop-i l =
    let s = turning_in l.params l.initial.self l.data in
    Walk (rest_of s l.initial.self 0 l.initial.output (live l.initial.self)) (rest_of s l.self l.k l.output) l.self.voices l.n l.i
    × (l.k ≤ l.i) × Walk (tidied_from s 0 0 0 (live l.initial.self)) (tidied_from s l.moved l.k l.i) l.self.voices l.n l.i × (l.moved ≤ l.i) × (l.n ≤ 32) × (l.self ≡ with_voices l.self.voices l.self.count l.initial.self)
