-- `seated` meets its contract. Assumes nothing.
use Rattle.std.proofs.Common.{rules, ◌≡◌, ◌<◌, length, get_or, ap, ◌∙◌, arith, subst}
use Rattle.channel.specs.declared.Channel.{Channel}
use Rattle.channel.specs.contracts.Channel as C
use Rattle.sampler.specs.Refusals.{channel_at}
use Rattle.sampler.proofs.Seats.{none}
use Rattle.lent_sampler.specs.Lists.{seat_of}
use Rattle.lent_sampler.proofs.Lists.{seat_one, seat_other, seat_two}
use Rattle.lent_sampler.proofs.Surveys.{element, there}
use Rattle.lent_sampler.proofs.seated.Goals as goal
use Rattle.lent_sampler.proofs.seated.Goals.{then-channel-eq1, else-channel-eq1}

pub returns : goal.returns
returns c =
    let both : length c.args.s.now.channels ≡ 2 = search rules in
    let is : c.if-channel-eq1.result ≡ seat_of c.args.channel = elim c.if-channel-eq1.branch [
      | then-channel-eq1 w ↦ w.result-is ∙ seat_one _ w.if-channel-eq1.true
      | else-channel-eq1 w ↦ w.result-is ∙ seat_other _ w.if-channel-eq1.false
    ] in
    let low : c.if-channel-eq1.result < 2 = omega (arith, is, seat_two c.args.channel) in
    let held = element (C.the_row).own_val c.args.s.now.channels _ c.if-channel-eq1.result none (omega (arith, both, low)) c.type_inv.s.0.1.1 in
    let all : length (get_or c.args.s.now.channels c.if-channel-eq1.result none).voices ≡ 32 = held.1.1.1.0.1.0.1 in
    let asked = there c.args.s.now both _ low ∙ ap (channel_at c.args.s.now) is in
    record { asked = asked; whole = subst (λ (d : Channel). length d.voices ≡ 32) asked all }
