-- `Channel::record` meets its contract: what is recorded is recorded in the recorder's part of the memory. Assumes nothing.
use mathlib.Core.Path.{ap, ◌∙◌}
use lib.ListN.{length}
use Rattle.phrases.specs.declared.Beside.{Beside}
use Rattle.channel.specs.Heads.{written_in}
use Rattle.channel.proofs.Rooms.{taken_there, memory_there}
use Rattle.channel.proofs.Channel.record.Goals as goal

pub returns : goal.returns
returns c =
    let a = c.args in
    let room = c.room-room in
    let recorded = c.recorded-self in
    let m = a.«data».now in
    let is = room.ensures.value ∙ ap (λ (b : Beside). written_in b.behind a.self.head (length m)) c.beside-b.ensures in record {
      value = taken_there a.self m room.result is recorded.result recorded.ensures.value;
      data_after = memory_there a.self m room.result is a.input _ recorded.ensures.data_after;
    }
