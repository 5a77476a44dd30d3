-- `Sampler::process_sample` meets its contract: refused, it leaves all as it was, and otherwise it is a step of that channel. Assumes nothing.
use lib.Ieee.{of_bits}
use lib.ListN.{length}
use Rattle.refusals.proofs.Codes.{zero_at, told}
use Rattle.sampler.specs.Samplers.{process_sample_of, sample_memory}
use Rattle.sampler.proofs.Rows.{sample_ready}
use Rattle.sampler.proofs.Sampler.process_sample.Goals as goal

pub returns-then-not-is_ok : goal.returns-then-not-is_ok
unfolding process_sample_of sample_memory of_bits
returns-then-not-is_ok c =
    let refused = told c.sample_judged-done.ensures c.is_ok.ensures.value c.if-not-is_ok.true in
    record { value = simp (c.sample_judged-done.ensures, refused); memory_after = simp refused }

pub step-stepped-requires : goal.step-stepped-requires
step-stepped-requires c =
    sample_ready _ _ _ _ (zero_at _ (told c.sample_judged-done.ensures c.is_ok.ensures.value c.if-not-is_ok.false))

pub returns : goal.returns
unfolding process_sample_of sample_memory
returns c =
    let done = told c.sample_judged-done.ensures c.is_ok.ensures.value c.if-not-is_ok.false in
    let step = c.step-stepped.ensures in
    record {
      value = simp (step.sampler_value, step.output_value, step.moved_value, c.sample_judged-done.ensures, done);
      memory_after = simp (step.memory_after, done);
    }
