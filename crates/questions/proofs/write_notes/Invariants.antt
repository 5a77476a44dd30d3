use mathlib.Core.Path.{◌≡◌}
use lib.ListN.{length}
use Rattle.walks.proofs.Lists.Loops.{Walk}
use Rattle.channel.specs.Channels.{live}
use Rattle.questions.proofs.Notes.{laid}
use Rattle.questions.proofs.write_notes.Given as goal

abbrev pub invariant-loop-i : goal.invariant-loop-i
invariant-loop-i l = Walk (laid l.initial.notes 0 (live l.c)) (laid l.notes l.k) l.c.voices l.n l.i × (length l.notes ≡ length l.initial.notes)
