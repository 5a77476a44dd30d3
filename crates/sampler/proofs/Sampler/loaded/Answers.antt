-- `Sampler::loaded` meets its contract, by the law of loops that store. Assumes nothing.
use native.Mathlib.Nat.{le_refl}
use Rattle.walks.proofs.Lists.Loops.{stores, ends, begins}
use Rattle.channel.specs.declared.Change.TheVariants.{Head}
use Rattle.channel.specs.declared.HeadChange.TheVariants.{Load}
use Rattle.sampler.specs.Samplers.{each_of}
use Rattle.sampler.proofs.Seats.{none, each_from, head_on}
use borrow.Author.Rules.{rules}
use Rattle.sampler.proofs.Sampler.loaded.Goals as goal

pub loop-j-init : goal.loop-j-init
loop-j-init c = begins (each_from (Head (Load c.args.samples)) c.args.self 0) c.args.self.channels c.args.self.count _ 2 (search rules) c.min-n.ensures

pub loop-j-preserved : goal.loop-j-preserved
loop-j-preserved c = stores none c.loop-j.j _ c.loop-j.invariant (search rules) (le_refl _) (λ xs. head_on _ c.loop-j.self c.loop-j.j _ _ xs c.head_changed.ensures)

pub returns : goal.returns
unfolding each_of
returns c = ends c.loop-j.invariant c.loop-j-test.false
