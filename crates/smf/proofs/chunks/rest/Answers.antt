-- `rest` meets its contract. Assumes nothing.
use Rattle.std.proofs.Common.{rules}
use mathlib.Core.Path.{sym, ap, ◌∙◌}
use Rattle.std.specs.Prelude.{Ok}
use native.Mathlib.Omega.{arith}
use Rattle.smf.specs.Files.{rest_at}
use Rattle.smf.proofs.Searches.{track_placed}
use Rattle.smf.proofs.chunks.rest.Goals as goal

pub overflow_add-result : goal.overflow_add-result
overflow_add-result c = let h = track_placed _ _ _ (sym c.track_at.ensures ∙ c.in_ok-place.was ∙ ap Ok c.in-Some.is) in omega arith

pub returns-in_err-place : goal.returns-in_err-place
unfolding rest_at
returns-in_err-place c = search rules

pub returns-in-Some : goal.returns-in-Some
unfolding rest_at
returns-in-Some c = simp (sym c.track_at.ensures ∙ c.in_ok-place.was ∙ ap Ok c.in-Some.is)

pub returns-in-None : goal.returns-in-None
unfolding rest_at
returns-in-None c = simp (sym c.track_at.ensures ∙ c.in_ok-place.was ∙ ap Ok c.in-None.is)
