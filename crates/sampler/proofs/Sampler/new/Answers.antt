-- `Sampler::new` meets its contract: its test is that of set-up. Assumes nothing.
use Rattle.sampler.specs.Refusals.{set_up_judged}
use Rattle.sampler.specs.Samplers.{set_up_of}
use Rattle.sampler.proofs.Sampler.new.Goals as goal

pub returns-then-good_sizes : goal.returns-then-good_sizes
unfolding set_up_of set_up_judged
returns-then-good_sizes c = simp (c.new-c.ensures, ← c.capacity_of-capacity.ensures, ← c.good_sizes.ensures, c.if-good_sizes.true)

pub returns-else-good_sizes : goal.returns-else-good_sizes
unfolding set_up_of set_up_judged
returns-else-good_sizes c = simp (c.new-c.ensures, ← c.capacity_of-capacity.ensures, ← c.good_sizes.ensures, c.if-good_sizes.false)
