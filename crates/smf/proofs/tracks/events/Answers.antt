-- `events` meets its contract. The invariant: what is left of the song, behind what was counted and written, is the whole song (`Turns: Going`). Assumes nothing.
use Rattle.std.proofs.Common.{rules}
use Rattle.std.specs.Prelude.{Result, Ok, Err}
use mathlib.Core.Path.{◌≡◌, sym, ap, ◌∙◌}
use Prim.Native.Nat.{ℕ}
use native.Mathlib.Omega.{arith}
use Rattle.smf.specs.Events.{step_at}
use Rattle.smf.specs.Files.{behind_track}
use Rattle.smf.specs.Cues.{count_closed}
use Rattle.smf.proofs.Inside.{step-ends}
use Rattle.smf.proofs.Turns.{begun, bounded, broken, ended, late, again, one_entry}
use Rattle.smf.proofs.tracks.events.Goals as goal
use Rattle.smf.specs.declared.faults.Fault.{Fault}

pub loop-next-init : goal.loop-next-init
loop-next-init c = begun _ _ _ _ _ _ (omega arith) (omega arith)

pub step_at-requires : goal.step_at-requires
step_at-requires c = omega (arith, c.min-end.ensures)

pub returns-in_err-next : goal.returns-in_err-next
unfolding count_closed
returns-in_err-next c =
    let both = broken _ _ _ _ c.loop-next.invariant _ (ap (λ (n : ℕ). step_at c.args.file.now n c.loop-next.running c.loop-next.place) (sym c.min-end.ensures) ∙ sym c.step_at.ensures ∙ c.in_err-next.was) in
    let e : c.from_residual.result ≡ Err c.in_err-next.field-0.0 = search rules in record { value = e ∙ both.0; written_list = both.1 }

pub returns-in_err-behind-in-End : goal.returns-in_err-behind-in-End
unfolding count_closed
returns-in_err-behind-in-End c =
    let over = ended _ _ _ _ c.loop-next.invariant _ (ap (λ (n : ℕ). step_at c.args.file.now n c.loop-next.running c.loop-next.place) (sym c.min-end.ensures) ∙ sym c.step_at.ensures ∙ c.in_ok-next.was ∙ ap Ok c.in-End.is) in
    let no : behind_track c.args.file.now c.args.full c.in-End.next ≡ Err c.in_err-behind-in-End.field-0.0 = sym c.behind.ensures ∙ c.in_err-behind-in-End.was in
    let e : c.from_residual-in_err-behind-in-End.result ≡ Err c.in_err-behind-in-End.field-0.0 = search rules in
    record { value = e ∙ sym (ap (λ (v : Result (Unit {0}) Fault). count_closed v c.loop-next.count) no) ∙ over.0; written_list = over.1 }

pub returns-in-End : goal.returns-in-End
unfolding count_closed
returns-in-End c =
    let over = ended _ _ _ _ c.loop-next.invariant _ (ap (λ (n : ℕ). step_at c.args.file.now n c.loop-next.running c.loop-next.place) (sym c.min-end.ensures) ∙ sym c.step_at.ensures ∙ c.in_ok-next.was ∙ ap Ok c.in-End.is) in
    let good = sym c.behind.ensures ∙ c.in_ok-behind-in-End.was in
    record { value = sym (ap (λ (v : Result (Unit {0}) Fault). count_closed v c.loop-next.count) good) ∙ over.0; written_list = over.1 }

pub later-clock-requires : goal.later-clock-requires
later-clock-requires c = record { rate_bound = (omega arith, omega arith, omega arith); frames_bound = bounded _ _ _ _ c.loop-next.invariant (omega arith) }

pub overflow_sub-result : goal.overflow_sub-result
overflow_sub-result c = let moves = step-ends _ _ _ _ _ (sym c.step_at.ensures ∙ c.in_ok-next.was ∙ ap Ok c.in-Is.is) in omega arith

pub returns-then-late : goal.returns-then-late
unfolding count_closed
returns-then-late c = let both = late _ _ _ _ c.loop-next.invariant _ _ _ _ (ap (λ (n : ℕ). step_at c.args.file.now n c.loop-next.running c.loop-next.place) (sym c.min-end.ensures) ∙ sym c.step_at.ensures ∙ c.in_ok-next.was ∙ ap Ok c.in-Is.is) _ (c.later-clock.ensures _ c.loop-next.invariant.time) (sym c.late.ensures ∙ c.if-late.true) in record { value = both.0; written_list = both.1 }

pub put-count-requires : goal.put-count-requires
put-count-requires c = let a = c.loop-next.invariant.counted in let b = c.loop-next.invariant.inside in omega arith

pub loop-next-smaller : goal.loop-next-smaller
loop-next-smaller c = let moves = step-ends _ _ _ _ _ (sym c.step_at.ensures ∙ c.in_ok-next.was ∙ ap Ok c.in-Is.is) in omega arith

pub loop-next-preserved : goal.loop-next-preserved
loop-next-preserved c = let is = (ap (λ (n : ℕ). step_at c.args.file.now n c.loop-next.running c.loop-next.place) (sym c.min-end.ensures) ∙ sym c.step_at.ensures ∙ c.in_ok-next.was ∙ ap Ok c.in-Is.is) in
    rw c.tempo_after-tempo.ensures (again _ _ _ _ c.loop-next.invariant _ _ _ _ is _ (c.later-clock.ensures _ c.loop-next.invariant.time) (sym c.late.ensures ∙ c.if-late.false) _ _ c.put-count.ensures.value c.put-count.auto.list c.put-count.ensures.list_after (one_entry _ _) (step-ends _ _ _ _ _ is))
