-- `judge` meets its contract: chunks that are met stand in the file. Assumes nothing.
use Rattle.std.specs.Prelude.{None}
use mathlib.Core.Path.{◌≡◌, sym, ◌∙◌}
use Prim.Native.Nat.{◌^◌}
use native.Mathlib.Omega.{arith}
use borrow.Author.Rules.{rules}
use Rattle.wave.proofs.Judgements.{places_below}
use Rattle.wave_forms.proofs.Judgements.{judged_riff, judged_no_riff}
use Rattle.wave_forms.proofs.judge.Goals as goal

pub judged_at-requires : goal.judged_at-requires
judged_at-requires c = let below = places_below _ _ (2 ^ 63) (sym c.walk.ensures ∙ c.in_ok-walk.was) (omega arith) in (below.0, below.1)

pub returns : goal.returns
returns c = c.judged_at.ensures ∙ sym (judged_riff _ _ (sym c.good_riff.ensures ∙ c.if-not-good_riff.false) (sym c.walk.ensures ∙ c.in_ok-walk.was))

pub returns-in_err-walk : goal.returns-in_err-walk
returns-in_err-walk c =
    let e : c.from_residual.result ≡ None = search rules in
    e ∙ sym (judged_riff _ _ (sym c.good_riff.ensures ∙ c.if-not-good_riff.false) (sym c.walk.ensures ∙ c.in_err-walk.was))

pub returns-then-not-good_riff : goal.returns-then-not-good_riff
returns-then-not-good_riff c = sym (judged_no_riff _ (sym c.good_riff.ensures ∙ c.if-not-good_riff.true))
