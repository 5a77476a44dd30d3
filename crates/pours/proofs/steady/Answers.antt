-- `steady` meets its contract: its tests are those of `steady_told`. Assumes nothing.
use Rattle.pours.proofs.Promised.{steady_told}
use Rattle.pours.proofs.steady.Goals as goal

pub returns : goal.returns
returns c =
    let a = c.args in
    steady_told a.v a.t a.n c.if-n-lt1.false c.if-n-gt-LAST_WHOLE.false c.if-t-gt-LATEST.false _ _ _ c.may_go.ensures c.keeps.ensures c.same_all.ensures
