-- `print_error_info` meets its contract: what is answered of what is seen is what is answered of the record. Assumes nothing.
use Rattle.std.proofs.Common.{length, ap, ◌∙◌}
use Rattle.questions.specs.declared.Seen.{Seen}
use Rattle.questions.specs.Sights.{error_in, error_after}
use Rattle.questions.proofs.Sights.{error_seen, text_seen}
use Rattle.lent_sampler.proofs.print_error_info.Goals as goal

pub returns : goal.returns
returns c = (
  c.error_in.ensures.value ∙ ap (λ (t : Seen). error_in t c.args.channel (length c.args.text.now)) c.look.ensures.seen ∙ error_seen c.args.s.now c.args.channel (length c.args.text.now),
  c.error_in.ensures.text_after ∙ ap (λ (t : Seen). error_after t c.args.channel c.args.text.now) c.look.ensures.seen ∙ text_seen c.args.s.now c.args.channel c.args.text.now,
)
