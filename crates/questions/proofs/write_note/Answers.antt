-- `write_note` meets its contract: a finished voice stores nothing. Assumes nothing.
use mathlib.Core.Path.{ap}
use lib.ListN.{length}
use native.Mathlib.Omega.{arith}
use Rattle.questions.proofs.Notes.{no_note, its_note}
use Rattle.questions.proofs.write_note.Goals as goal

pub returns-then-v : goal.returns-then-v
returns-then-v c = simp (no_note c.args.v c.if-v.true)

pub bounds-notes-k : goal.bounds-notes-k
bounds-notes-k c = omega (arith, ap length (its_note c.args.v c.if-v.false))

pub returns : goal.returns
returns c = simp (its_note c.args.v c.if-v.false, c.from.ensures)
