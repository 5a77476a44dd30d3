-- `get_last_recorded_offset` meets its contract: what is answered of what is seen is what is answered of the record. Assumes nothing.
use Rattle.std.proofs.Common.{ap, ◌∙◌}
use Rattle.questions.specs.declared.Seen.{Seen}
use Rattle.questions.specs.Sights.{offset_in}
use Rattle.questions.proofs.Sights.{offset_seen}
use Rattle.lent_sampler.proofs.get_last_recorded_offset.Goals as goal

pub returns : goal.returns
returns c = c.offset_in.ensures ∙ ap (λ (t : Seen). offset_in t c.args.channel) c.look.ensures.seen ∙ offset_seen c.args.s.now c.args.channel
