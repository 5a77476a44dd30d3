-- `good` meets its contract: what is asked first goes before the rest. Assumes nothing.
use Rattle.std.proofs.Common.{◌≡◌, ◌&&◌, Bool, true, sym, ◌∙◌}
use Rattle.std.specs.List.{fold}
use Rattle.walks.proofs.Lists.Every.{all_folded}
use Rattle.voice.specs.declared.Voice.{Voice}
use Rattle.voice.specs.Voices.{good_voice}
use Rattle.channel.specs.declared.Channel.{Channel}
use Rattle.channel.specs.Channels.{live, good_voices_of}
use Rattle.lent_channel.proofs.Besides.{all_good, no_voices_good, no_head_good}
use Rattle.lent_channel.proofs.good.Goals as goal

-- the voices' fold goes on behind one that isn't good
judged : (c : Channel) → fold (λ (ok : Bool) (v : Voice). ok && good_voice c.head.now v) true (live c) ≡ good_voices_of c
unfolding good_voices_of
judged c = all_folded (good_voice c.head.now) (live c)

pub returns-then-good_voices : goal.returns-then-good_voices
returns-then-good_voices c =
    c.good_phrases.ensures ∙ all_good c.args.capacity c.args.c.now (sym c.head_good.ensures ∙ c.if-head_good.true) (sym (c.good_voices.ensures ∙ judged c.args.c.now) ∙ c.if-good_voices.true)

pub returns-else-good_voices : goal.returns-else-good_voices
returns-else-good_voices c = no_voices_good c.args.capacity c.args.c.now (sym c.head_good.ensures ∙ c.if-head_good.true) (sym (c.good_voices.ensures ∙ judged c.args.c.now) ∙ c.if-good_voices.false)

pub returns-else-head_good : goal.returns-else-head_good
returns-else-head_good c = no_head_good c.args.capacity c.args.c.now (sym c.head_good.ensures ∙ c.if-head_good.false)
