-- `is_recording` meets its contract: what is answered of what is seen is what is answered of the record. Assumes nothing.
use Rattle.std.proofs.Common.{ap, ◌∙◌}
use Rattle.questions.specs.declared.Seen.{Seen}
use Rattle.questions.specs.Sights.{records_in}
use Rattle.questions.proofs.Sights.{recording_seen}
use Rattle.lent_sampler.proofs.is_recording.Goals as goal

pub returns : goal.returns
returns c = c.recording_in.ensures ∙ ap (λ (t : Seen). records_in t c.args.channel) c.look.ensures.seen ∙ recording_seen c.args.s.now c.args.channel
