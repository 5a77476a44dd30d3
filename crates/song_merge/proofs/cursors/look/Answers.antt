-- `look` meets its contract. Assumes nothing.
use Rattle.std.specs.Prelude.{Ok}
use mathlib.Core.Path.{sym, ap, ◌∙◌}
use native.Mathlib.Omega.{arith}
use Rattle.song_merge.proofs.Looks.{look_read, look_quantity, shown}
use Rattle.song_merge.proofs.cursors.look.Goals as goal

pub returns-in-Err : goal.returns-in-Err
returns-in-Err c = let a = c.args in
    let both = shown a.list.now (λ i. omega (arith, c.type_inv.list i)) a.end a.running a.at _
    (ap (look_quantity a.list.now a.end a.running a.at) (sym c.quantity_at.ensures ∙ c.in-Err.is) ∙ sym c.over.ensures) in
    record { cursor_placed = both.0; views = both.1 }

pub returns-in-Err-event_at : goal.returns-in-Err-event_at
returns-in-Err-event_at c = let a = c.args in
    let both = shown a.list.now (λ i. omega (arith, c.type_inv.list i)) a.end a.running a.at _
    (ap (look_quantity a.list.now a.end a.running a.at) (sym c.quantity_at.ensures ∙ c.in-Ok.is)
    ∙ ap (look_read a.running a.at _ _) (sym c.event_at.ensures ∙ c.in-Err-event_at.is) ∙ sym c.over-in-Err-event_at.ensures) in
    record { cursor_placed = both.0; views = both.1 }

pub returns-in-Ok-End : goal.returns-in-Ok-End
returns-in-Ok-End c = let a = c.args in
    let both = shown a.list.now (λ i. omega (arith, c.type_inv.list i)) a.end a.running a.at _
    (ap (look_quantity a.list.now a.end a.running a.at) (sym c.quantity_at.ensures ∙ c.in-Ok.is)
    ∙ ap (look_read a.running a.at _ _) (sym c.event_at.ensures ∙ c.in-Ok-End.is ∙ ap Ok c.in-Ok-End.field-0-is) ∙ sym c.over-in-Ok-End.ensures) in
    record { cursor_placed = both.0; views = both.1 }

pub returns-in-Ok-Is : goal.returns-in-Ok-Is
returns-in-Ok-Is c = let a = c.args in
    let both = shown a.list.now (λ i. omega (arith, c.type_inv.list i)) a.end a.running a.at _
    (ap (look_quantity a.list.now a.end a.running a.at) (sym c.quantity_at.ensures ∙ c.in-Ok.is)
    ∙ ap (look_read a.running a.at _ _) (sym c.event_at.ensures ∙ c.in-Ok-Is.is ∙ ap Ok c.in-Ok-Is.field-0-is)) in
    record { cursor_placed = both.0; views = both.1 }
