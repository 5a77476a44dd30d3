-- `plainly` meets its contract: what is done is what is promised of a voice that eases. Assumes nothing.
use mathlib.Core.Path.{ap}
use native.Mathlib.Omega.{arith}
use lib.Ieee.{binary32, add}
use Rattle.pours.proofs.Promised.{agrees_so, laps_few, promised}
use Rattle.pours.proofs.plainly.Goals as goal

pub pour_all-requires : goal.pour_all-requires
pour_all-requires c =
    let e = c.requires.0 in
    (e.eases.profile.start_top, e.place, e.eases.profile.length_top, e.eases.profile.total_low, e.held, c.requires.1)

pub moved-requires : goal.moved-requires
moved-requires c =
    let e = c.requires.0 in
    (e.place, e.eases.profile.length_top, laps_few (agrees_so e) (omega (arith, e.eases.few)))

pub returns : goal.returns
returns c =
    let a = c.args in
    promised a.h a.v a.t a.b a.«data».now a.sums.now _ c.level-level.result c.level-level.ensures a.n c.requires.0 c.requires.1 _ _ _ _ _
    c.index_at-index.ensures c.term_at-value.ensures c.last_but_one-last.ensures (ap (add binary32 a.v.played) c.usize_to_f32.ensures) c.heard.ensures c.moved.ensures c.pour_all.ensures
