-- `turn_next` meets its contract: a voice that stays is stored behind those that stayed. Assumes nothing.
use Rattle.std.proofs.Common.{rules, arith, ◌≡◌, ◌<◌, length, ap, ◌∙◌}
use Rattle.walks.proofs.Lists.Loops.{get_d_any}
use Rattle.voice.specs.Voices.{blank_voice}
use Rattle.channel.proofs.Slots.{none}
use Rattle.lent_channel.specs.declared.Turn.{Turn}
use Rattle.lent_channel.specs.Turns.{next_voice, next_turn, turned_in}
use Rattle.lent_channel.proofs.Turns.{turned_stored, turned_left}
use Rattle.lent_channel.proofs.turn_next.Goals as goal
use Rattle.lent_channel.proofs.turn_next.Goals.{then-r, else-r}

pub returns : goal.returns
returns c =
    let all : length c.args.c.now.voices ≡ 32 = search rules in
    let inside : c.args.g.place < length c.args.c.now.voices = let few = c.requires.0 in omega (arith, all, few) in
    let so : c.turned-r.result ≡ next_turn c.args.t c.args.data.now c.args.g (next_voice c.args.g c.args.c.now) =
    c.turned-r.ensures ∙ ap (next_turn c.args.t c.args.data.now c.args.g) (get_d_any c.args.c.now.voices c.args.g.place none blank_voice inside) in
    record {
      next = ap (λ (r : Turn). r.next) so;
      channel = elim c.if-r.branch [
        | then-r w ↦ w.c-is ∙ turned_stored c.args.c.now c.args.g c.turned-r.result w.if-r.true
        | else-r w ↦ w.c-is ∙ turned_left c.args.c.now c.args.g c.turned-r.result w.if-r.false
      ] ∙ ap (λ (r : Turn). turned_in c.args.g r c.args.c.now) so;
      all = all;
    }
