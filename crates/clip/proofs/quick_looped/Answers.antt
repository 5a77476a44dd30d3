-- `quick_looped` meets its contract: below 0 by the remainder of the negated value. Assumes nothing.
use mathlib.Core.Path.{ap, ◌∙◌, subst}
use lib.Dec.{T}
use lib.Ieee.{Float, binary32, of_bits}
use Rattle.binary32.proofs.Truth.{yes}
use Rattle.binary32.proofs.Quotients.{rem_turned}
use Rattle.clip.specs.Positions.{raised_of, looped_of}
use Rattle.clip.proofs.Quick.{looped_ahead}
use Rattle.clip.proofs.quick_looped.Goals as goal

pub returns-then-x : goal.returns-then-x
returns-then-x c h =
    let a = c.args in
    looped_ahead a.x a.length _ h (c.rem_or_less.ensures h)

pub returns-then-y : goal.returns-then-y
unfolding looped_of of_bits
returns-then-y c h =
    let a = c.args in
    c.raised.ensures ∙ ap (λ (y : Float). raised_of y a.length) (rem_turned binary32 a.x a.length _ (c.rem_or_less-y.ensures (yes c.if-y.true)))

pub returns-else-y : goal.returns-else-y
unfolding of_bits
returns-else-y c h = absurd (subst T c.if-y.false h)
