-- `write_wave` meets its contract: what is answered of what is seen is what is answered of the record. Assumes nothing.
use Rattle.std.proofs.Common.{length, ap, ◌∙◌}
use Rattle.questions.specs.declared.Seen.{Seen}
use Rattle.recordings.specs.Sights.{write_seen, wave_left}
use Rattle.recordings.proofs.Sights.{write_seen_lem, wave_seen}
use Rattle.lent_sampler.proofs.write_wave.Goals as goal

pub returns : goal.returns
returns c = (
  c.write_in.ensures.value ∙ ap (λ (t : Seen). write_seen t (length c.args.out.now) (length c.args.memory.now)) c.look.ensures.seen
      ∙ write_seen_lem c.args.s.now c.look.ensures.two (length c.args.out.now) (length c.args.memory.now),
  c.write_in.ensures.out_after ∙ ap (λ (t : Seen). wave_left t c.args.rate c.args.memory.now c.args.out.now) c.look.ensures.seen
      ∙ wave_seen c.args.s.now c.look.ensures.two c.args.rate c.args.memory.now c.args.out.now,
)
