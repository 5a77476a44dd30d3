-- `Backing::new` meets its contract. Assumes nothing.
use Rattle.plain_sampler.specs.Backings.{cold_backing}
use Rattle.plain_sampler.proofs.Backing.new.Goals as goal

pub returns : goal.returns
unfolding cold_backing
returns c = simp c.new-side.ensures
