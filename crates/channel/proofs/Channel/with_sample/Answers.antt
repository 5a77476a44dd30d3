-- `Channel::with_sample` meets its contract: recording first, then the voices, then the input at its level, then the close. Assumes nothing.
use Rattle.channel.specs.Channels.{process_sample_of}
use Rattle.channel.proofs.Channel.with_sample.Goals as goal

pub returns : goal.returns
unfolding process_sample_of
returns c =
    let e = c.record-recorded.ensures.data_after in
    let plays = rw e at c.play-played.ensures.value in
    record {
      value = simp (c.closed-channel.ensures, c.any_unfinished-unfinished.ensures, c.mixed-output.ensures, plays, c.record-recorded.ensures.value);
      data_after = e;
      moved_bound = c.play-played.ensures.moved_bound;
    }
