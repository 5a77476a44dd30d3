-- `get_waveform_summary` meets its contract: what is answered of what is seen is what is answered of the record. Assumes nothing.
use Rattle.std.proofs.Common.{length, ap, ◌∙◌}
use Rattle.questions.specs.declared.Seen.{Seen}
use Rattle.questions.specs.Sights.{waveform_in, waveform_left}
use Rattle.questions.proofs.Seats.{waveform_seen, list_seen}
use Rattle.lent_sampler.proofs.get_waveform_summary.Goals as goal

pub returns : goal.returns
returns c = (
  c.waveform_in.ensures.value ∙ ap (λ (t : Seen). waveform_in t c.args.columns (length c.args.list.now) c.args.memory.now) c.look.ensures.seen
      ∙ waveform_seen c.args.s.now c.args.columns (length c.args.list.now) c.args.memory.now,
  c.waveform_in.ensures.list_after ∙ ap (λ (t : Seen). waveform_left t c.args.columns c.args.list.now c.args.memory.now) c.look.ensures.seen
      ∙ list_seen c.args.s.now c.args.columns c.args.list.now c.args.memory.now,
)
