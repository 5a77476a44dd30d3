-- `note_count` meets its contract. Assumes nothing.
use mathlib.Core.Path.{sym, ap}
use lib.ListN.{length}
use Rattle.questions.proofs.Notes.{no_note, its_note}
use Rattle.questions.proofs.note_count.Goals as goal

pub returns-then-v : goal.returns-then-v
returns-then-v c = sym (ap length (no_note c.args.v c.if-v.true))

pub returns-else-v : goal.returns-else-v
returns-else-v c = sym (ap length (its_note c.args.v c.if-v.false))
