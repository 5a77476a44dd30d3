-- `write_notes` meets its contract, by the law of loops: what is left to list, stored from here on, gives the whole list. Assumes nothing.
use mathlib.Core.Path.{refl, ap}
use Prim.Native.Nat.{ℕ}
use native.Mathlib.Omega.{arith}
use mathlib.Core.List.{List}
use Rattle.walks.specs.Walks.{without}
use Rattle.walks.proofs.Lists.Loops.{turns, ends, begins}
use Rattle.channel.proofs.Slots.{none}
use Rattle.questions.specs.Questions.{notes_of}
use Rattle.questions.proofs.Notes.{laid, laid_on, turn-fits}
use borrow.Author.Rules.{rules}
use Rattle.questions.proofs.write_notes.Goals as goal

pub loop-i-init : goal.loop-i-init
loop-i-init c = (begins (laid c.args.notes.now 0) c.args.c.voices c.args.c.count _ 32 (search rules) c.min-n.ensures, refl)

pub write_note-requires : goal.write_note-requires
write_note-requires c = omega (arith, turn-fits _ _ none c.loop-i.invariant.0 c.loop-i-test.true)

pub overflow_add-k : goal.overflow_add-k
overflow_add-k c = omega (arith, turn-fits _ _ none c.loop-i.invariant.0 c.loop-i-test.true)

pub loop-i-preserved : goal.loop-i-preserved
loop-i-preserved c = (turns none c.loop-i.invariant.0 (search rules) (λ vs. laid_on _ _ _ vs c.note_count-k.ensures _ _ c.write_note.ensures), search rules)

pub returns : goal.returns
unfolding notes_of without
returns c = ap (λ (p : List ℕ × ℕ). p.0) (ends c.loop-i.invariant.0 c.loop-i-test.false)
