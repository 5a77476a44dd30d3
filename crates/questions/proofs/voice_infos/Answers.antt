-- `voice_infos` meets its contract, by the law of loops: each turn fills the place of its voice. Assumes nothing.
use mathlib.Core.Path.{ap, ◌∙◌}
use mathlib.Core.List.{List}
use Rattle.walks.proofs.Lists.Loops.{turns, ends, begins}
use Rattle.channel.proofs.Slots.{none}
use Rattle.questions.specs.Questions.{figures_of, infos_with, voice_infos_of}
use Rattle.std.specs.Prelude.{replicate}
use Rattle.channel.specs.Channels.{live}
use Rattle.questions.specs.declared.VoiceInfo.{VoiceInfo}
use Rattle.questions.proofs.Infos.{figured, filled, filled_on, filled_front}
use borrow.Author.Rules.{rules}
use Rattle.questions.proofs.voice_infos.Goals as goal

pub loop-i-init : goal.loop-i-init
loop-i-init c =
    begins (filled _ (replicate 32 c.default-infos.result) 0) c.args.c.voices c.args.c.count _ 32 (search rules) c.min-n.ensures

pub loop-i-preserved : goal.loop-i-preserved
loop-i-preserved c =
    let at = c.loop-i in
    turns none at.invariant (search rules)
    (λ vs. filled_on _ at.infos at.i _ _ vs
    (figured _ _ _ _ _ _ _ _ _ c.phrase_at-whole.ensures c.phrase_at-own.ensures c.loop_length-length.ensures c.usize_to_f32.ensures c.voice_info.ensures))

pub returns : goal.returns
unfolding voice_infos_of
returns c =
    let f = figures_of c.args.params c.args.first c.args.c in
    ap (λ (infos : List VoiceInfo). infos_with infos c.args.c.count)
    (ends c.loop-i.invariant c.loop-i-test.false
    ∙ ap (λ (info : VoiceInfo). filled f (replicate 32 info) 0 (live c.args.c)) c.default-infos.ensures
    ∙ filled_front f c.args.c (search rules))
