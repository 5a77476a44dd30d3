-- `info` meets its contract. Assumes nothing.
use Rattle.std.proofs.Common.{rules}
use Rattle.questions.specs.Questions.{figures_of}
use Rattle.lent_sampler.proofs.info.Goals as goal

pub returns : goal.returns
unfolding figures_of
returns c = simp (c.voice_info.ensures, c.loop_length-length.ensures, c.length_of.ensures, c.length_of-2.ensures, c.usize_to_f32.ensures)
