use Rattle.std.proofs.Common.{◌≡◌}
use Rattle.sampler.specs.Refusals.{channel_at}
use Rattle.lent_sampler.proofs.Lists.{figured_upto}
use Rattle.lent_sampler.proofs.get_voice_info.Given as goal

abbrev pub invariant-loop-i : goal.invariant-loop-i
invariant-loop-i l = l.list ≡ figured_upto l.params (channel_at l.s 0) l.c l.fn.list l.i
