-- `turned` meets its contract: its tests are those of `next_turn`. Assumes nothing.
use mathlib.Core.Path.{sym, ◌∙◌, ap}
use borrow.Author.Tests.{lt-ltb, le-ltb}
use Rattle.voice.specs.Voices.{should_remove_of}
use Rattle.lent_channel.specs.Turns.{next_turn}
use Rattle.lent_channel.proofs.turned.Goals as goal

pub returns-then-g : goal.returns-then-g
unfolding next_turn
returns-then-g c =
    let turns = c.turn-voice.ensures in
    let gone = sym (ap (should_remove_of c.args.t) turns) ∙ sym c.should_remove.ensures ∙ c.if-should_remove.true in
    simp (turns, c.sound-output.ensures, gone, lt-ltb _ _ c.if-g.true)

pub returns-else-g : goal.returns-else-g
unfolding next_turn
returns-else-g c =
    let turns = c.turn-voice.ensures in
    let gone = sym (ap (should_remove_of c.args.t) turns) ∙ sym c.should_remove.ensures ∙ c.if-should_remove.true in
    simp (turns, c.sound-output.ensures, gone, le-ltb _ _ c.if-g.false)

pub returns : goal.returns
unfolding next_turn
returns c =
    let turns = c.turn-voice.ensures in
    let stays = sym (ap (should_remove_of c.args.t) turns) ∙ sym c.should_remove.ensures ∙ c.if-should_remove.false in
    simp (turns, c.sound-output.ensures, stays)
