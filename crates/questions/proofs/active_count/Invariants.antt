use Prim.Native.Nat.{◌+◌, ◌≤◌}
use mathlib.Core.List.{List}
use lib.ListN.{length}
use Rattle.walks.proofs.Lists.Loops.{Walk}
use Rattle.voice.specs.declared.Voice.{Voice}
use Rattle.channel.specs.Channels.{live}
use Rattle.questions.specs.Questions.{notes_of}
use Rattle.questions.proofs.active_count.Given as goal

abbrev pub invariant-loop-i : goal.invariant-loop-i
invariant-loop-i l = Walk (0 + length (notes_of (live l.c))) (λ (vs : List Voice). l.k + length (notes_of vs)) l.c.voices l.n l.i × (l.k ≤ l.i)
