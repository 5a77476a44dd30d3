use Rattle.walks.proofs.Lists.Loops.{Walk}
use Rattle.channel.specs.Channels.{live, sped_of}
use Rattle.channel.proofs.Slots.{map_from}
use Rattle.channel.proofs.Channel.with_note_speed.Given as goal

abbrev pub invariant-loop-i : goal.invariant-loop-i
invariant-loop-i l = Walk (map_from (sped_of l.note l.speed) l.initial.self 0 (live l.initial.self)) (map_from (sped_of l.note l.speed) l.self l.i) l.self.voices l.n l.i
