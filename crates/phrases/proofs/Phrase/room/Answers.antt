-- `Phrase::room` meets its contract: it lies within the memory as the definition's does. Assumes nothing.
use Rattle.std.proofs.Common.{◌≡◌, ◌+◌, ◌≤◌, sym, subst}
use Rattle.phrases.specs.Phrases.{room_of}
use Rattle.phrases.specs.declared.Room.{Room}
use Rattle.phrases.proofs.Rooms.{room_inside}
use Rattle.phrases.proofs.Phrase.room.Goals as goal

pub returns : goal.returns
unfolding room_of
returns c =
    let a = c.args in
    let from = c.min-from.result in
    let is : ◌≡◌ {A = Room} (record { from = from; to = from + c.min.result }) (room_of a.self a.size) = simp (c.min.ensures, c.min-from.ensures) in
    record { value = is; from_le_to = subst (λ (r : Room). (r.from ≤ r.to) × (r.to ≤ a.size)) (sym is) (room_inside a.self a.size) }
