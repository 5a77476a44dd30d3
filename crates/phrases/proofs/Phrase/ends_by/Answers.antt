-- `Phrase::ends_by` meets its contract: it compares without a sum, which could be too large. Assumes nothing.
use Rattle.std.proofs.Common.{◌≡◌, ℕ, ◌+◌, ◌-◌, ◌≤◌, Bool, true, false, leb, sym, refl, ◌∙◌, arith, le-leb, leb-false, leb-true}
use borrow.Author.Tests.{lt-leb}
use Rattle.phrases.specs.Phrases.{is_over_by}
use Rattle.phrases.proofs.Phrase.ends_by.Goals as goal

from_start : (place start n : ℕ) → start ≤ place → leb n (place - start) ≡ leb (start + n) place
from_start place start n h = go (leb n (place - start)) refl
  where
    go : (b : Bool) → leb n (place - start) ≡ b → leb n (place - start) ≡ leb (start + n) place
    go true e = e ∙ sym (le-leb (start + n) place (omega (arith, h, leb-true n (place - start) e)))
    go false e = e ∙ sym (lt-leb (start + n) place (omega (arith, h, leb-false n (place - start) e)))

pub returns-then-self-place : goal.returns-then-self-place
unfolding is_over_by
returns-then-self-place c =
    let a = c.args in
    from_start a.place a.self.start a.self.length c.if-self-place.true

pub returns-else-self-place : goal.returns-else-self-place
unfolding is_over_by
returns-else-self-place c =
    let a = c.args in
    sym (lt-leb (a.self.start + a.self.length) a.place (omega (arith, c.if-self-place.false)))
