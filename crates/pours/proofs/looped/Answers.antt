-- `looped` meets its contract, by `looped_either`. Assumes nothing.
use mathlib.Core.Path.{ap, ◌∙◌, subst}
use lib.Dec.{T}
use lib.Ieee.{Float, binary32, rem, of_bits}
use Rattle.binary32.proofs.Truth.{yes}
use Rattle.pours.proofs.Placing.{looped_either}
use Rattle.pours.proofs.looped.Goals as goal

pub returns-then-y : goal.returns-then-y
unfolding of_bits
returns-then-y c h =
    let a = c.args in
    let low = yes c.if-y.true in
    c.turned.ensures ∙ looped_either a.x a.length _ low (c.rem_or_less-y.ensures low ∙ ap (λ (x : Float). rem binary32 x a.length) c.size_of.ensures)

pub returns-else-y : goal.returns-else-y
unfolding of_bits
returns-else-y c h = absurd (subst T c.if-y.false h)
