-- `Sampler::gather` meets its contract: a refused call leaves all as it was. Assumes nothing.
use mathlib.Core.Path.{◌∙◌}
use lib.ListN.{length}
use Rattle.refusals.proofs.Codes.{zero_at, told}
use Rattle.sampler.specs.Samplers.{gather_of, gather_memory}
use Rattle.sampler.proofs.Rows.{gather_steps}
use Rattle.sampler.proofs.Sampler.gather.Goals as goal

pub gathered-sampler-requires : goal.gathered-sampler-requires
gathered-sampler-requires c =
    gather_steps c.args.self (length c.args.memory.now) (zero_at _ (told c.gather_judged-done.ensures c.is_ok.ensures.value c.if-is_ok.true))

pub returns-then-is_ok-clause-value : goal.returns-then-is_ok-clause-value
unfolding gather_of
returns-then-is_ok-clause-value c =
    let done = told c.gather_judged-done.ensures c.is_ok.ensures.value c.if-is_ok.true in
    simp (c.gathered-sampler.ensures.value, c.gather_judged-done.ensures, done)

pub returns-then-is_ok-clause-memory_after : goal.returns-then-is_ok-clause-memory_after
unfolding gather_memory
returns-then-is_ok-clause-memory_after c =
    let done = told c.gather_judged-done.ensures c.is_ok.ensures.value c.if-is_ok.true in
    simp (c.gathered-sampler.ensures.memory_after, done)

pub returns-else-is_ok-clause-value : goal.returns-else-is_ok-clause-value
unfolding gather_of
returns-else-is_ok-clause-value c =
    let refused = told c.gather_judged-done.ensures c.is_ok.ensures.value c.if-is_ok.false in
    simp (c.gather_judged-done.ensures, refused)

pub returns-else-is_ok-clause-memory_after : goal.returns-else-is_ok-clause-memory_after
unfolding gather_memory
returns-else-is_ok-clause-memory_after c =
    let refused = told c.gather_judged-done.ensures c.is_ok.ensures.value c.if-is_ok.false in
    simp refused
