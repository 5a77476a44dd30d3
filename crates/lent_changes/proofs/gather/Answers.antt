-- `gather` meets its contract: table and head are stored as `gathered` gives them. Assumes nothing.
use Rattle.std.proofs.Common.{ap}
use Rattle.channel.specs.declared.Channel.{Channel}
use Rattle.channel.specs.Channels.{gathered_in, gathered_memory}
use Rattle.lent_changes.specs.declared.Laid.{Laid}
use Rattle.lent_changes.specs.Laying.{laid_of}
use Rattle.lent_changes.proofs.gather.Goals as goal

pub returns : goal.returns
unfolding gathered_in gathered_memory laid_of
returns c =
    let h : Channel = c.args.c.now in
    let stored : Laid → Channel = λ l. record { voices = h.voices; table = l.table; count = h.count; head = l.head; several = h.several } in
    (ap stored c.gathered-l.ensures.0, c.gathered-l.ensures.1)
