-- `gather` meets its contract. Assumes nothing.
use mathlib.Core.Path.{◌∙◌}
use Rattle.pours.proofs.Promised.{gathered}
use Rattle.pours.proofs.gather.Goals as goal

pub returns-then-not-lasts : goal.returns-then-not-lasts
returns-then-not-lasts c = (c.fetch-f.ensures.size ∙ c.places.ensures.0, tt)

pub returns : goal.returns
returns c =
    let a = c.args in
    let f = c.fetch-f in
    let o = c.places in
    let l = c.lasts in
    (f.ensures.size ∙ o.ensures.0, gathered a.«data».now a.t a.n a.v _ _ f.result c.requires.0.some (l.ensures c.if-not-lasts.false) (o.ensures.1 c.if-not-places.false) f.ensures)
