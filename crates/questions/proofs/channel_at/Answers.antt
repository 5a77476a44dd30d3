-- `channel_at` meets its contract: the array has two channels, and past them the definition has a new one too. Assumes nothing.
use mathlib.Core.Path.{sym, ◌∙◌}
use mathlib.Core.Bool.{false}
use lib.ListN.{get_or-eq_default}
use Rattle.channel.specs.Channels.{channel_of}
use Rattle.walks.proofs.Lists.Loops.{get_d_any}
use Rattle.sampler.proofs.Seats.{none}
use native.Mathlib.Omega.{arith}
use Rattle.questions.proofs.channel_at.Goals as goal

pub returns-then-channel-lt2 : goal.returns-then-channel-lt2
returns-then-channel-lt2 c =
    get_d_any c.args.s.channels c.args.channel none (channel_of (record { auto_passthru = false })) (omega (arith, c.well_formed.0.1.1.0.1.0.1))

pub returns : goal.returns
returns c =
    c.new.ensures ∙ sym (get_or-eq_default c.args.s.channels (channel_of (record { auto_passthru = false })) (omega (arith, c.well_formed.0.1.1.0.1.0.1)))
