-- `run_answer` meets its contract. Assumes nothing.
use Rattle.std.proofs.Common.{rules}
use Rattle.sampler.specs.Refusals.{run_done, run_judged, done_of}
use Rattle.sampler.specs.Samplers.{run_answer}
use Rattle.lent_sampler.proofs.run_answer.Goals as goal

pub returns : goal.returns
unfolding run_done run_answer done_of run_judged
returns c = simp (c.run_done.ensures, c.good_with.ensures, c.room.ensures)
