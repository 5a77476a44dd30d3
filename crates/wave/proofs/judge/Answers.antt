-- `judge` meets its contract: chunks that are met stand in the file. Assumes nothing.
use mathlib.Core.Path.{sym, ◌∙◌}
use native.Mathlib.Omega.{arith}
use Rattle.wave.proofs.Judgements.{places_below, judged_riff, judged_no_riff}
use Rattle.wave.proofs.judge.Goals as goal

pub judged_at-requires : goal.judged_at-requires
judged_at-requires c = places_below _ _ _ (sym c.walk.ensures ∙ c.in-Some.is) (omega arith)

pub returns-in-Some : goal.returns-in-Some
returns-in-Some c = c.judged_at.ensures ∙ sym (judged_riff _ _ (sym c.good_riff.ensures ∙ c.if-good_riff.true) (sym c.walk.ensures ∙ c.in-Some.is))

pub returns-in-None : goal.returns-in-None
returns-in-None c = sym (judged_riff _ _ (sym c.good_riff.ensures ∙ c.if-good_riff.true) (sym c.walk.ensures ∙ c.in-None.is))

pub returns-else-good_riff : goal.returns-else-good_riff
returns-else-good_riff c = sym (judged_no_riff _ (sym c.good_riff.ensures ∙ c.if-good_riff.false))
