-- What stands after i entries, beside the record and the backing that there would be without easing. Assumes nothing.
use Rattle.plain_sampler.proofs.Streams.{Streamed}
use Rattle.plain_sampler.proofs.process_frames.Given as goal

abbrev pub invariant-loop-i : goal.invariant-loop-i
invariant-loop-i l = Streamed l.fn.s l.fn.run l.params l.fn.memory l.fn.k l.i l.s l.run l.memory l.k
