-- `clock` meets its contract: the array has two channels. Assumes nothing.
use mathlib.Core.Path.{ap}
use mathlib.Core.Bool.{false}
use Rattle.channel.specs.Channels.{channel_of}
use Rattle.sampler.proofs.Seats.{none}
use native.Mathlib.Omega.{arith}
use Rattle.walks.proofs.Lists.Loops.{get_d_any}
use Rattle.channel.specs.declared.Channel.{Channel}
use Rattle.listing.specs.Steps.{clock_of}
use Rattle.listing.proofs.player.clock.Goals as goal

pub returns : goal.returns
unfolding clock_of
returns c = ap (λ (x : Channel). x.head.now) (get_d_any c.args.s.channels 0 none (channel_of (record { auto_passthru = false })) (omega arith))
