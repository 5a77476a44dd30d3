use Rattle.lent_sampler.proofs.Lists.{Noted}
use Rattle.lent_sampler.proofs.iter_active_notes.Given as goal

abbrev pub invariant-loop-v : goal.invariant-loop-v
invariant-loop-v l = Noted l.v-items l.fn.notes l.v-index l.k l.notes
