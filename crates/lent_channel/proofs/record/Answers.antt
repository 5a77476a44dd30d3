-- `record` meets its contract: where nothing is recorded it leaves all as it is, and else what the recorder leaves is stored. Assumes nothing.
use Rattle.std.proofs.Common.{◌≡◌, length, sym, ap, ◌∙◌}
use Rattle.phrases.specs.declared.Beside.{Beside}
use Rattle.channel.specs.declared.Head.{Head}
use Rattle.channel.specs.Heads.{written_in}
use Rattle.channel.specs.Channels.{behind_in}
use Rattle.channel.proofs.Resting.{untaken, unwritten}
use Rattle.channel.proofs.Rooms.{taken_there, memory_there}
use Rattle.lent_channel.proofs.record.Goals as goal

pub returns-then-is_recording : goal.returns-then-is_recording
returns-then-is_recording c =
    let h : Head = c.args.c.now.head in
    let is : c.room-room.result ≡ written_in (behind_in c.args.c.now) h (length c.args.data.now) =
    c.room-room.ensures.value ∙ ap (λ (b : Beside). written_in b.behind h (length c.args.data.now)) c.beside-b.ensures in
    let with_after : Head → Head = λ x. record {
      now = h.now;
      data_len = x.data_len;
      start = h.start;
      passthru_volume = h.passthru_volume;
      recorder = x.recorder;
      passthru_on = h.passthru_on;
      interpolates = h.interpolates;
      chosen = h.chosen;
    } in (
      taken_there c.args.c.now c.args.data.now c.room-room.result is (with_after c.recorded-after.result) (ap with_after c.recorded-after.ensures.value),
      memory_there c.args.c.now c.args.data.now c.room-room.result is c.args.input c.recorded-after.new.data c.recorded-after.ensures.data_after,
    )

pub returns-else-is_recording : goal.returns-else-is_recording
returns-else-is_recording c =
    let rests = sym c.is_recording.ensures ∙ c.if-is_recording.false in
    (sym (untaken c.args.data.now c.args.c.now rests), sym (unwritten c.args.data.now c.args.c.now rests c.args.input))
