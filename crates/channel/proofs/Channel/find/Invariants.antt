-- The search for a voice: from the place on it finds what it finds from the first. Definitions only.
use Rattle.std.proofs.Common.{length, ◌-◌, ◌≡◌, ◌≤◌, drop}
use Rattle.std.specs.List.{position_from}
use Rattle.channel.specs.Channels.{live, wanted_of}
use Rattle.channel.proofs.Channel.find.Given as goal

abbrev pub invariant-loop-i : goal.invariant-loop-i
invariant-loop-i l = (l.i ≤ length l.voices)
    × (position_from (wanted_of l.note) l.i (drop l.i l.voices) ≡ position_from (wanted_of l.note) 0 (live l.fn.self))

abbrev pub decreases-loop-i : goal.decreases-loop-i
decreases-loop-i l = length l.voices - l.i
