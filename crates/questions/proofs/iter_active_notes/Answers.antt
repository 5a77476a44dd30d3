-- `iter_active_notes` meets its contract: the notes are counted first, so that a short list is refused before one is written. Assumes nothing.
use mathlib.Core.Path.{◌≡◌, sym, ap, ◌∙◌}
use mathlib.Core.Bool.{false, not}
use Prim.Native.Nat.{ℕ, ◌≤◌}
use native.Mathlib.Omega.{arith}
use borrow.Author.Tests.{ltb-false}
use lib.Dec.{ltb}
use lib.ListN.{length}
use Rattle.std.specs.Prelude.{Ok}
use Rattle.refusals.specs.declared.Refusal.TheVariants.{ShortList}
use Rattle.refusals.proofs.Codes.{open_row}
use Rattle.walks.proofs.Lists.Runs.{run_front}
use Rattle.channel.specs.Channels.{live}
use Rattle.questions.specs.Questions.{notes_of, list_counted, list_after}
use Rattle.questions.proofs.Answers.{rows_open}
use Rattle.questions.proofs.iter_active_notes.Goals as goal

pub returns-clause-notes_after : goal.returns-clause-notes_after
unfolding list_counted list_after
returns-clause-notes_after c =
    let notes = c.args.notes.now in
    let answer = notes_of (live c.channel_at-c.result) in
    let passed = rows_open (not c.good.result) (not (ltb c.args.channel c.args.s.count)) (sym c.in_ok-rows.was ∙ c.rows.ensures) in
    let fits = open_row (ltb (length notes) c.active_count-count.result) ShortList (Ok tt) tt (sym c.in_ok-when.was ∙ c.when.ensures) in
    let short : ltb (length notes) (length answer) ≡ false = ap (λ (n : ℕ). ltb (length notes) n) (sym c.active_count-count.ensures) ∙ fits in
    simp (← c.channel_at-c.ensures, ← c.good.ensures, passed.0, passed.1, short)
    (c.write_notes.ensures ∙ run_front notes answer (ltb-false (length notes) (length answer) short))
