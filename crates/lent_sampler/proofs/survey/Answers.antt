-- `survey` meets its contract. Assumes nothing.
use Rattle.std.proofs.Common.{rules, ◌≡◌, length, get_or, ap, ◌∙◌, subst, arith}
use Rattle.channel.specs.declared.Channel.{Channel}
use Rattle.channel.specs.Channels.{beside_in}
use Rattle.channel.specs.contracts.Channel as C
use Rattle.sampler.proofs.Seats.{none}
use Rattle.lent_sampler.proofs.Surveys.{element, there}
use Rattle.lent_sampler.proofs.survey.Goals as goal

pub returns : goal.returns
returns c =
    let both : length c.args.s.now.channels ≡ 2 = search rules in
    let held = element (C.the_row).own_val c.args.s.now.channels _ 1 none (omega (arith, both)) c.type_inv.s.0.1.1 in
    let all : length (get_or c.args.s.now.channels 1 none).table ≡ 8 = held.1.1.1.1.0.1.0.1 in
    let first = c.beside.ensures ∙ ap (beside_in c.args.s.now.capacity) (there c.args.s.now both 0 (omega arith)) in
    let second = c.beside-2.ensures ∙ ap (beside_in c.args.s.now.capacity) (there c.args.s.now both 1 (omega arith)) in
    record {
      surveyed = λ i. record { seen = c.look.ensures.seen i; first = first i; second = second i };
      two = both;
      eight = subst (λ (d : Channel). length d.table ≡ 8) (there c.args.s.now both 1 (omega arith)) all;
    }
