-- `track` meets its contract. Assumes nothing.
use mathlib.Core.Path.{sym, ap, ◌∙◌}
use Prim.Native.Nat.{ℕ, ◌+◌}
use native.Mathlib.Omega.{arith}
use Rattle.smf.specs.Files.{chunk_events}
use Rattle.smf.specs.Cues.{count_closed}
use Rattle.smf.proofs.Searches.{track_short, track_long}
use Rattle.smf.proofs.Turns.{over_now}
use Rattle.smf.proofs.tracks.track.Goals as goal

pub returns-then-all-at-lt8 : goal.returns-then-all-at-lt8
unfolding count_closed
returns-then-all-at-lt8 c = let both = over_now _ _ _ _ _ (track_short _ _ (omega arith) c.if-all-at-lt8.true) in record { value = both.0; written_list = both.1 }

pub returns : goal.returns
returns c = let at = c.args.at in
    let e = track_long c.args.file.now at c.if-all-at-lt8.false ∙ ap (λ (n : ℕ). chunk_events c.args.file.now (at + 8 + n) (at + 8)) (sym c.four_at.ensures) in
    rw e c.events.ensures
