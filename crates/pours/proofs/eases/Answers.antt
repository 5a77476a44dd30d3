-- `eases` meets its contract: its tests are those of `eases_told`. Assumes nothing.
use Rattle.pours.proofs.Promised.{eases_told}
use Rattle.pours.proofs.eases.Goals as goal

pub returns : goal.returns
returns c =
    let a = c.args in
    eases_told a.h a.v a.t a.b a.room a.n c.if-n-gt-LAST_WHOLE.false c.is_static.result c.agrees.result c.whole_in.result c.usize_to_f32.result
    c.is_static.ensures c.agrees.ensures c.whole_in.ensures c.usize_to_f32.ensures
