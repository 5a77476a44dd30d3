-- `position_on` meets its contract: that of a voice that isn't plain stays, and else it is moved where it agrees. Assumes nothing.
use mathlib.Core.Path.{sym, ◌∙◌}
use borrow.Author.Tests.{not-true, not-false}
use Rattle.pours.proofs.Turns.{unjudged}
use Rattle.pours.proofs.Promised.{laps_few, moves}
use Rattle.pours.proofs.position_on.Goals as goal

pub returns-then-not-h : goal.returns-then-not-h
returns-then-not-h c m s l = sym (unjudged m _ _ _ _ (not-true _ c.if-not-h.true))

pub moved-requires : goal.moved-requires
moved-requires c = let e = c.agrees.ensures c.if-not-agrees.false c.requires.0 in (e.place, e.profile.length_top, laps_few e c.requires.1.few)

pub returns : goal.returns
returns c m s l =
    let a = c.args in
    c.moved.ensures ∙ moves m a.h a.v a.t a.b a.n (not-false _ c.if-not-h.false) c.requires.1.some c.requires.1.few c.if-t-v.false (c.agrees.ensures c.if-not-agrees.false c.requires.0) s l
