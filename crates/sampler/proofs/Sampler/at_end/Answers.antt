-- `Sampler::at_end` meets its contract. Past the last channel the clock is that of a new one. Assumes nothing.
use mathlib.Core.Path.{sym, ap, ◌∙◌}
use borrow.Author.Tests.{le-ltb}
use mathlib.Core.Bool.{false}
use lib.ListN.{get_or-eq_default}
use Rattle.channel.specs.Heads.{head_of}
use Rattle.channel.specs.Channels.{channel_of}
use Rattle.walks.proofs.Lists.Loops.{get_d_any}
use Rattle.sampler.specs.Refusals.{at_end}
use Rattle.sampler.proofs.Seats.{none}
use native.Mathlib.Omega.{arith}
use Rattle.sampler.proofs.Sampler.at_end.Goals as goal

pub returns-then-channel-lt2 : goal.returns-then-channel-lt2
returns-then-channel-lt2 c = ap at_end (get_d_any c.args.self.channels c.args.channel none (channel_of (record { auto_passthru = false })) (omega (arith, c.well_formed.0.1.1.0.1.0.1)))

pub returns-else-channel-lt2 : goal.returns-else-channel-lt2
unfolding channel_of head_of
returns-else-channel-lt2 c = le-ltb _ _ c.if-channel-lt2.false ∙ sym (ap at_end (get_or-eq_default c.args.self.channels (channel_of (record { auto_passthru = false })) (omega (arith, c.well_formed.0.1.1.0.1.0.1))))
