-- `places` meets its contract: few samples after the clip's last change by how many they are, else by the time. Assumes nothing.
use mathlib.Core.Path.{refl, sym, ap, ◌∙◌}
use Rattle.binary32.specs.Leaves.{as_whole}
use mathlib.Core.Bool.{true≢false}
use native.Mathlib.Omega.{arith}
use Rattle.pours.proofs.Placing.{lead_few, offset_by}
use Rattle.pours.proofs.places.Goals as goal

pub returns-then-time-c : goal.returns-then-time-c
returns-then-time-c c = (refl, λ told. absurd (true≢false (sym told)))

pub overflow_add-elapsed : goal.overflow_add-elapsed
overflow_add-elapsed c = record { fits = omega (arith, c.if-elapsed-n.true, c.requires.2, lead_few _ c.lead.ensures) }

pub places_by-requires : goal.places_by-requires
places_by-requires c = (c.requires.1, omega (arith, c.if-elapsed-n.true, c.requires.2, lead_few _ c.lead.ensures), c.requires.3)

pub returns-then-elapsed-n : goal.returns-then-elapsed-n
returns-then-elapsed-n c =
    let a = c.args in
    let o = c.places_by.ensures in
    (o.0, λ told k h. o.1 told k h ∙ ap (as_whole 64) (offset_by a.c a.time c.lead.result k c.lead.ensures c.if-time-c.false (omega (arith, c.if-elapsed-n.true, c.requires.2, h))))
