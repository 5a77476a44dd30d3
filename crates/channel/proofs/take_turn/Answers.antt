-- `take_turn` meets its contract: its test is that of `turning_at`. Assumes nothing.
use mathlib.Core.Path.{sym, ap, ◌∙◌}
use borrow.Author.Tests.{eq-eqb, ne_eqb}
use Rattle.voice.specs.declared.Tick.{Tick}
use Rattle.channel.specs.Channels.{Turning, turning_by, resting, turned_of}
use Rattle.channel.proofs.Turns.{turned_by, turning_none, turning_some}
use Rattle.channel.proofs.take_turn.Goals as goal

pub returns-then-at-eq0 : goal.returns-then-at-eq0
unfolding resting
returns-then-at-eq0 c =
    let a = c.args in
    simp (turning_none turning_by a.params a.at a.«data».now (eq-eqb a.at.data_len 0 c.if-at-eq0.true))

pub returns : goal.returns
returns c =
    let a = c.args in
    let m = a.«data».now in
    turned_by c.new-t.result m a.output c.sound.result a.v c.turn-voice.result c.should_remove.result
    c.turn-voice.ensures c.should_remove.ensures c.sound.ensures
    ∙ ap (λ (s : Turning). turned_of s a.output a.v)
    (ap (λ (t : Tick). turning_by t m) c.new-t.ensures ∙ sym (turning_some turning_by a.params a.at m (ne_eqb a.at.data_len 0 c.if-at-eq0.false)))
