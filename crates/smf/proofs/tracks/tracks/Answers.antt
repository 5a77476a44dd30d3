-- `tracks` meets its contract. Assumes nothing.
use Rattle.std.specs.Prelude.{Ok, Err}
use Rattle.std.proofs.Common.{rules}
use mathlib.Core.Path.{◌≡◌, sym, ap, ◌∙◌}
use native.Mathlib.Omega.{arith}
use Rattle.smf.specs.Cues.{count_closed}
use Rattle.smf.proofs.Searches.{track_placed, events_found}
use Rattle.smf.proofs.Turns.{over_now}
use Rattle.smf.proofs.tracks.tracks.Goals as goal

pub track-requires : goal.track-requires
track-requires c = let h = track_placed _ _ _ (sym c.track_at.ensures ∙ c.in_ok-track_at.was ∙ ap Ok c.in-Some.is) in record { rate_bound = (omega arith, omega arith, omega arith); at_in_bounds = omega arith }

pub returns-in_err-track_at : goal.returns-in_err-track_at
unfolding count_closed
returns-in_err-track_at c = let both = over_now _ _ _ _ _ (events_found _ _ _ (sym c.track_at.ensures ∙ c.in_err-track_at.was)) in let e : c.from_residual.result ≡ Err c.in_err-track_at.field-0.0 = search rules in record { value = e ∙ both.0; written_list = both.1 }

pub returns-in-None : goal.returns-in-None
unfolding count_closed
returns-in-None c = let both = over_now _ _ _ _ _ (events_found _ _ _ (sym c.track_at.ensures ∙ c.in_ok-track_at.was ∙ ap Ok c.in-None.is)) in record { value = both.0; written_list = both.1 }

pub returns-in-Some : goal.returns-in-Some
returns-in-Some c = rw (events_found _ _ _ (sym c.track_at.ensures ∙ c.in_ok-track_at.was ∙ ap Ok c.in-Some.is)) c.track.ensures
