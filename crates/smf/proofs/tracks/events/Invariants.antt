-- What is left of the song, behind what was counted and written, is the whole song (`Turns: Going`).
use Prim.Native.Nat.{◌-◌}
use Rattle.smf.specs.Files.{chunk_events}
use Rattle.smf.specs.Times.{first_tempo}
use Rattle.smf.specs.Cues.{song_from}
use Rattle.smf.proofs.Turns.{Going}
use Rattle.smf.proofs.tracks.events.Given as goal

abbrev pub invariant-loop-next : goal.invariant-loop-next
invariant-loop-next l =
    Going l.file l.rate l.division l.full (song_from l.rate l.division first_tempo 0 (chunk_events l.file l.full l.at)) l.initial.list l.place l.running l.tempo l.clock l.count l.list

abbrev pub decreases-loop-next : goal.decreases-loop-next
decreases-loop-next l = l.end - l.place
