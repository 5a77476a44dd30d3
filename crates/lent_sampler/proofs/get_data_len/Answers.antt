-- `get_data_len` meets its contract: what is answered of what is seen is what is answered of the record. Assumes nothing.
use Rattle.std.proofs.Common.{ap, ◌∙◌}
use Rattle.questions.specs.declared.Seen.{Seen}
use Rattle.questions.specs.Sights.{length_in}
use Rattle.questions.proofs.Sights.{length_seen}
use Rattle.lent_sampler.proofs.get_data_len.Goals as goal

pub returns : goal.returns
returns c = c.length_in.ensures ∙ ap (λ (t : Seen). length_in t c.args.channel) c.look.ensures.seen ∙ length_seen c.args.s.now c.args.channel
