-- `get_frames_processed` meets its contract: what is answered of what is seen is what is answered of the record. Assumes nothing.
use Rattle.std.proofs.Common.{ap, ◌∙◌}
use Rattle.questions.specs.declared.Seen.{Seen}
use Rattle.questions.specs.Sights.{frames_in}
use Rattle.questions.proofs.Sights.{frames_seen}
use Rattle.lent_sampler.proofs.get_frames_processed.Goals as goal

pub returns : goal.returns
returns c = c.frames_in.ensures ∙ ap (λ (t : Seen). frames_in t c.args.channel) c.look.ensures.seen ∙ frames_seen c.args.s.now c.args.channel
