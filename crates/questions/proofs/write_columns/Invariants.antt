use mathlib.Core.Path.{◌≡◌}
use lib.ListN.{length}
use lib.Seq.{sets}
use Rattle.questions.specs.Waveforms.{columns_of}
use Rattle.questions.proofs.Filling.{Filling}
use Rattle.questions.proofs.write_columns.Given as goal

abbrev pub invariant-loop-i : goal.invariant-loop-i
invariant-loop-i l = Filling (sets l.initial.list 0 (columns_of l.columns l.recording)) l.columns l.recording l.step l.list l.start l.i × (length l.list ≡ length l.initial.list)
