-- `part_sample` meets its contract: with no voice ahead, a sample behind them is the channel's. Assumes nothing.
use Rattle.std.proofs.Common.{rules, ◌≡◌, ◌++◌, ◌-◌, ℕ, List, length, take, drop, ap, ◌∙◌}
use lib.Ieee.{of_bits}
use Rattle.channel.specs.declared.Played.{Played}
use Rattle.lent_channel.specs.Turns.{heard_of}
use Rattle.lent_sampler.specs.Hearing.{at_volume}
use Rattle.plain_channel.proofs.Aheads.{behind_none}
use Rattle.plain_sampler.proofs.Beside.{side_none}
use Rattle.plain_sampler.proofs.part_sample.Goals as goal

pub returns : goal.returns
unfolding of_bits
returns c =
    let voices : length c.args.c.now.voices ≡ 32 = search rules in
    let hots : length c.args.side.now.hots ≡ 32 = search rules in
    let part : List ℕ = take (c.args.end - c.args.start) (drop c.args.start c.args.memory.now) in
    let same = behind_none c.args.params c.args.input c.args.c.now part voices in
    let was = c.behind-heard.ensures in (
      (
        c.at_volume.ensures ∙ ap (at_volume c.args.params) (was.0 ∙ ap heard_of same),
        was.1 ∙ ap (λ (w : Played). w.channel) same,
        ap (λ (l : List ℕ). take c.args.start c.args.memory.now ++ (l ++ drop (c.args.end - c.args.start) (drop c.args.start c.args.memory.now))) was.2,
      ),
      was.3 ∙ side_none c.args.params c.args.input c.args.c.now part c.args.side.now voices hots,
    )
