-- What stands after i entries: `lent_sampler`'s of the record, the frame and the memory, and this crate's of what is beside. Assumes nothing.
use Rattle.std.proofs.Common.{length}
use Rattle.sampler.specs.Samplers.{framed}
use Rattle.lent_sampler.proofs.Turned.{Turned}
use Rattle.plain_sampler.proofs.Flanked.{Flanked}
use Rattle.plain_sampler.proofs.process_frame.Given as goal

abbrev pub invariant-loop-i : goal.invariant-loop-i
invariant-loop-i l = record {
  turned : Turned l.fn.s l.fn.frame l.params l.fn.memory l.i l.moved l.s l.frame l.memory;
  flanked : Flanked l.params (λ j. j) (length l.fn.frame) (framed l.fn.s l.fn.frame l.fn.memory) l.fn.k l.i l.s l.frame l.memory l.k;
}
