-- `whole` meets its contract. The invariant: what is left makes a track of the whole, and the whole leaves a track (`Tracks: Walks`). Assumes nothing.
use Rattle.std.specs.Prelude.{Ok}
use mathlib.Core.Path.{sym, ap, ◌∙◌}
use native.Mathlib.Omega.{arith}
use Rattle.smf.proofs.Inside.{step-ends}
use Rattle.song_merge.proofs.Tracks.{walks, walks_on, walks_over, walks_broken}
use Rattle.song_merge.proofs.chunks.whole.Goals as goal

pub loop-next-init : goal.loop-next-init
loop-next-init c = walks c.args.file.now c.args.end c.args.at (omega arith)

pub returns-in-Err : goal.returns-in-Err
returns-in-Err c = walks_broken _ _ _ _ _ c.loop-next.invariant _ (sym c.step_at.ensures ∙ c.in-Err.is)

pub returns-in-Ok-End : goal.returns-in-Ok-End
returns-in-Ok-End c = walks_over _ _ _ _ _ c.loop-next.invariant _ (sym c.step_at.ensures ∙ c.in-Ok-End.is ∙ ap Ok c.in-Ok-End.field-0-is)

pub loop-next-smaller : goal.loop-next-smaller
loop-next-smaller c = let moves = step-ends _ _ _ _ _ (sym c.step_at.ensures ∙ c.in-Ok-Is.is ∙ ap Ok c.in-Ok-Is.field-0-is) in omega arith

pub loop-next-preserved : goal.loop-next-preserved
loop-next-preserved c = walks_on _ _ _ _ _ c.loop-next.invariant _ _ _ _ (sym c.step_at.ensures ∙ c.in-Ok-Is.is ∙ ap Ok c.in-Ok-Is.field-0-is)
