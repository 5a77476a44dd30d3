-- `stretch` meets its contract: gliding turns, or the next voice's. Assumes nothing.
use Rattle.std.proofs.Common.{arith, ◌≡◌, ◌<◌, le_refl, ap, subst, ◌∙◌}
use Rattle.channel.specs.declared.Channel.{Channel}
use Rattle.lent_channel.specs.Turns.{next_voice, Goes}
use Rattle.lent_channel.proofs.Turns.{turn_goes}
use Rattle.lent_channel.proofs.stretch.Goals as goal
use Rattle.lent_channel.proofs.stretch.Goals.{then-g+else-g-h, else-g}

pub returns-then-g-h : goal.returns-then-g-h
returns-then-g-h c = (c.if-g-h.true, c.glide-h.ensures.goes c.args.n (le_refl c.args.n) c.requires.stands.few)

pub returns : goal.returns
returns c =
    let same : c.if-g.c ≡ c.args.c.now = elim c.if-g.branch [
      | then-g+else-g-h w ↦ w.c-is ∙ w.glide-h.ensures.none (omega (arith, w.glide-h.ensures.further, w.if-g-h.false))
      | else-g w ↦ w.c-is
    ] in
    subst (λ (h : Channel). (c.args.g.place < c.turn_next.result.place) × Goes c.args.t c.args.data.now c.args.n h c.args.g c.turn_next.new.c c.turn_next.result) same
    (turn_goes c.args.t c.args.data.now c.args.n c.if-g.c c.args.g c.requires.stands c.requires.below c.turn_next.ensures.all
    (ap (λ (h : Channel). (next_voice c.args.g h).phrase) same ∙ c.requires.phrase) c.turn_next.result c.turn_next.new.c (c.turn_next.ensures.next, c.turn_next.ensures.channel))
