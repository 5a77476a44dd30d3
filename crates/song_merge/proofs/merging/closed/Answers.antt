-- `closed` meets its contract. Assumes nothing.
use Rattle.std.specs.Prelude.{Option, Some, None, Result, Ok, Err}
use mathlib.Core.Path.{◌≡◌, ap, ◌∙◌}
use Prim.Native.Nat.{ℕ}
use borrow.Author.Tests.{lt-ltb, le-ltb, eq-eqb, ne_eqb}
use Rattle.smf.specs.declared.faults.Fault.{Fault}
use Rattle.song_merge.specs.declared.merging.Unmerged.TheVariants.{Broken}
use Rattle.song_merge.specs.Gathers.{gathered_to}
use Rattle.song_merge.proofs.merging.closed.Goals as goal

none : (r : Result (Option ℕ) Fault) (o : Option ℕ) → r ≡ Ok o → o ≡ None → r ≡ Ok None
none r o e h = e ∙ ap (λ (p : Option ℕ). Ok p) h

another : (r : Result (Option ℕ) Fault) (o : Option ℕ) (place end : ℕ) → r ≡ Ok o → o ≡ Some place → Err Broken ≡ gathered_to r end
unfolding gathered_to
another r o place end e h = simp (e, h)

pub returns-then-end-eq0 : goal.returns-then-end-eq0
unfolding gathered_to
returns-then-end-eq0 c = simp (none _ _ c.in-Ok.is c.in-None.is, eq-eqb _ _ c.if-end-eq0.true)

pub returns-then-end-gt4294967295 : goal.returns-then-end-gt4294967295
unfolding gathered_to
returns-then-end-gt4294967295 c = simp (none _ _ c.in-Ok.is c.in-None.is, ne_eqb _ _ c.if-end-eq0.false, lt-ltb _ _ c.if-end-gt4294967295.true)

pub returns-else-end-gt4294967295 : goal.returns-else-end-gt4294967295
unfolding gathered_to
returns-else-end-gt4294967295 c = simp (none _ _ c.in-Ok.is c.in-None.is, ne_eqb _ _ c.if-end-eq0.false, le-ltb _ _ c.if-end-gt4294967295.false)

pub returns-in-Some : goal.returns-in-Some
returns-in-Some c = another _ _ _ _ c.in-Ok.is c.in-Some.is

pub returns-in-Err : goal.returns-in-Err
unfolding gathered_to
returns-in-Err c = simp c.in-Err.is
