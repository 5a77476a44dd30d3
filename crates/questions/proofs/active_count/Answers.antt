-- `active_count` meets its contract, by the law of loops. Assumes nothing.
use mathlib.Core.Path.{sym, ◌∙◌}
use Prim.Native.Nat.{◌+◌}
use native.Mathlib.Nat.{add-zero, zero-add}
use native.Mathlib.Omega.{arith}
use mathlib.Core.List.{List}
use lib.ListN.{length}
use Rattle.walks.specs.Walks.{without}
use Rattle.walks.proofs.Lists.Loops.{turns, ends, begins}
use Rattle.voice.specs.declared.Voice.{Voice}
use Rattle.channel.proofs.Slots.{none}
use Rattle.questions.specs.Questions.{notes_of}
use Rattle.questions.proofs.Notes.{one_note, count_on}
use borrow.Author.Rules.{rules}
use Rattle.questions.proofs.active_count.Goals as goal

pub loop-i-init : goal.loop-i-init
loop-i-init c = (begins (λ (vs : List Voice). 0 + length (notes_of vs)) c.args.c.voices c.args.c.count _ 32 (search rules) c.min-n.ensures, search rules)

pub overflow_add-k : goal.overflow_add-k
overflow_add-k c = omega (arith, one_note _ _ c.note_count-k.ensures)

pub loop-i-preserved : goal.loop-i-preserved
loop-i-preserved c = (turns none c.loop-i.invariant.0 (search rules) (λ vs. count_on _ _ _ vs c.note_count-k.ensures), omega (arith, one_note _ _ c.note_count-k.ensures))

pub returns : goal.returns
unfolding notes_of without
returns c = sym (add-zero _) ∙ ends c.loop-i.invariant.0 c.loop-i-test.false ∙ zero-add _
