-- `stretch` meets its contract: voices glide, or the next takes its turn, and its position is judged. Assumes nothing.
use Rattle.std.proofs.Common.{rules, arith, ◌≡◌, sym, ap, ap₂, ◌∙◌, subst, length}
use Rattle.channel.specs.declared.Channel.{Channel}
use Rattle.lent_channel.specs.declared.Going.{Going}
use Rattle.lent_channel.specs.Turns.{next_voice, next_turn, turned_in}
use Rattle.plain_channel.specs.declared.Side.{Side}
use Rattle.plain_channel.specs.Sides.{followed_by}
use Rattle.plain_channel.proofs.Judging.{turn_follows}
use Rattle.plain_channel.proofs.stretch.Goals as goal
use Rattle.plain_channel.proofs.stretch.Goals.{then-g+then-p+else-g-h, then-g+else-p+else-g-h-2, else-g}

pub returns : goal.returns
returns c =
    let hots : length c.args.side.now.hots ≡ 32 = search rules in
    let a = c.args in
    let n = c.requires.0 in
    -- where none glides, channel and side are what they were
    let same : (c.if-g.c ≡ a.c.now) × (c.if-g.side ≡ a.side.now) = elim c.if-g.branch [
      | then-g+then-p+else-g-h w ↦ let h = w.hot_glide-h.ensures in let e = h.none (omega (arith, h.further, w.if-g-h.false)) in (w.c-is ∙ e.0, w.side-is ∙ e.1)
      | then-g+else-p+else-g-h-2 w ↦ let h = w.cool_glide-h.ensures in let e = h.none (omega (arith, h.further, w.if-g-h-2.false)) in (w.c-is ∙ e.0, w.side-is ∙ e.1)
      | else-g w ↦ (w.c-is, w.side-is)
    ] in
    let r = c.turn_next-r in
    let voices : length a.c.now.voices ≡ 32 = subst (λ (x : Channel). length x.voices ≡ 32) same.0 r.ensures.all in
    let f = c.followed in
    turn_follows a.t a.«data».now a.n a.c.now a.side.now a.g n.stands n.below voices hots n.phrase f.result r.new.c (
      f.ensures.0 ∙ r.ensures.next ∙ ap (λ (x : Channel). (next_turn a.t a.«data».now a.g (next_voice a.g x)).next) same.0,
      r.ensures.channel ∙ ap (λ (x : Channel). turned_in a.g (next_turn a.t a.«data».now a.g (next_voice a.g x)) x) same.0,
    ) f.new.side (f.ensures.1 ∙ ap₂ (λ (x : Going) (y : Side). followed_by r.new.c a.g x y) (sym f.ensures.0) same.1)
