-- `Phrase::apart` meets its contract: of two with samples, the one that begins first isn't behind the other. Assumes nothing.
use Rattle.std.proofs.Common.{◌≡◌, ◌+◌, ◌<◌, ◌≤◌, Bool, true, false, ◌||◌, refl, ◌∙◌, le_of_lt, arith}
use borrow.Author.Tests.{lt-leb}
use Rattle.walks.proofs.Tests.{neither}
use Rattle.phrases.specs.Phrases.{no_samples, is_over_by, apart_of}
use Rattle.phrases.specs.declared.Phrase.{Phrase}
use Rattle.phrases.proofs.Rooms.{holds_some}
use Rattle.phrases.proofs.Phrase.apart.Goals as goal

not_behind : (p q : Phrase) → p.start ≤ q.start → no_samples q ≡ false → is_over_by p.start q ≡ false
unfolding is_over_by
not_behind p q h some = lt-leb (q.start + q.length) p.start (omega (arith, h, holds_some q some))

module _ (p q : Phrase) (some : (no_samples p || no_samples q) ≡ false) where
  apart_first : p.start ≤ q.start → is_over_by q.start p ≡ apart_of p q
  unfolding apart_of
  apart_first h = rw (some, not_behind p q h (neither (no_samples p) (no_samples q) some).1) (go (is_over_by q.start p))
    where
      go : (b : Bool) → b ≡ (b || false)
      go true = refl
      go false = refl

  apart_second : q.start < p.start → is_over_by p.start q ≡ apart_of p q
  unfolding apart_of
  apart_second h = rw (some, not_behind q p (le_of_lt h) (neither (no_samples p) (no_samples q) some).0)

pub returns-then-is_empty : goal.returns-then-is_empty
unfolding apart_of
returns-then-is_empty c = simp (← c.is_empty.ensures, ← c.is_empty-2.ensures, c.if-is_empty.true)

pub returns-then-self-other : goal.returns-then-self-other
returns-then-self-other c =
    let a = c.args in
    c.ends_by.ensures ∙ apart_first a.self a.other (simp (← c.is_empty.ensures, ← c.is_empty-2.ensures, c.if-is_empty.false)) c.if-self-other.true

pub returns-else-self-other : goal.returns-else-self-other
returns-else-self-other c =
    let a = c.args in
    c.ends_by-else-self-other.ensures ∙ apart_second a.self a.other (simp (← c.is_empty.ensures, ← c.is_empty-2.ensures, c.if-is_empty.false)) c.if-self-other.false
