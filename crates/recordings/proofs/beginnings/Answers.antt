-- `beginnings` meets its contract. Assumes nothing.
use Rattle.std.proofs.Common.{false, ap, ◌∙◌, arith}
use Rattle.walks.proofs.Lists.Loops.{get_d_any}
use Rattle.channel.specs.Channels.{channel_of, begins_in}
use Rattle.sampler.proofs.Seats.{none}
use Rattle.recordings.proofs.beginnings.Goals as goal

pub returns : goal.returns
returns c =
    let s = c.args.s in
    let first = c.begins.ensures ∙ ap begins_in (get_d_any s.channels 0 none (channel_of (record { auto_passthru = false })) (omega (arith, c.well_formed.0.1.1.0.1.0.1))) in
    λ i. record { first = first i; second = c.second_begins.ensures i }
