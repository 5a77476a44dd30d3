-- `sample_judged` meets its contract: the rows in their order, of a channel that is there. Assumes nothing.
use Rattle.std.proofs.Common.{rules, ◌≡◌, ◌<◌, length, ◌∙◌, arith}
use Rattle.lent_sampler.proofs.Surveys.{low_channel, sample_rows}
use Rattle.lent_sampler.proofs.sample_judged.Goals as goal

pub offset_bounds-s-channel : goal.offset_bounds-s-channel
offset_bounds-s-channel c = record { fits = omega (arith, low_channel c.args.s.now c.args.channel c.args.params c.args.size _ c.good_with.ensures c.in_ok-when.ensures c.in_ok-when-2.ensures) }

pub bounds-s-channel : goal.bounds-s-channel
bounds-s-channel c = low_channel c.args.s.now c.args.channel c.args.params c.args.size _ c.good_with.ensures c.in_ok-when.ensures c.in_ok-when-2.ensures

pub returns : goal.returns
returns c =
    let both : length c.args.s.now.channels ≡ 2 = search rules in
    c.when-4.ensures ∙ sample_rows c.args.s.now c.args.channel c.args.params c.args.size _ c.good_with.ensures c.in_ok-when.ensures c.in_ok-when-2.ensures _ c.beyond_limits.ensures c.in_ok-when-3.ensures both
