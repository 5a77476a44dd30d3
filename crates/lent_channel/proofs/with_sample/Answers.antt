-- `with_sample` meets its contract: a sample is recorded, the voices play, and it is closed. Where there is no voice, what stands there is what their play would give. Assumes nothing.
use Rattle.std.proofs.Common.{◌≡◌, List, ℕ, sym, ap, ◌∙◌}
use Rattle.channel.specs.declared.Channel.{Channel}
use Rattle.channel.specs.declared.Played.{Played}
use Rattle.channel.specs.Channels.{any_unfinished_of, Turning, played_of, turning_in, taken_of, memory_of}
use Rattle.lent_channel.specs.Turns.{heard_of}
use Rattle.lent_channel.proofs.Turns.{sample_done, none_heard, none_gone, none_unfinished}
use Rattle.lent_channel.proofs.with_sample.Goals as goal
use Rattle.lent_channel.proofs.with_sample.Goals.{then-c-ne0, else-c-ne0}

pub returns : goal.returns
returns c =
    let h : Channel = taken_of c.args.data.now c.args.c.now in
    let m : List ℕ = memory_of c.args.input c.args.c.now c.args.data.now in
    let s : Turning = turning_in c.args.params h m in
    let taken : c.record.new.c ≡ h = c.record.ensures.0 in
    let stored : c.record.new.data ≡ m = c.record.ensures.1 in
    let same : played_of (turning_in c.args.params c.record.new.c c.record.new.data) c.record.new.c ≡ played_of s h =
    ap (λ (d : Channel). played_of (turning_in c.args.params d c.record.new.data) d) taken ∙ ap (λ (l : List ℕ). played_of (turning_in c.args.params h l) h) stored in
    let parts : (c.if-c-ne0.played ≡ heard_of (played_of s h)) × (c.if-c-ne0.unfinished ≡ any_unfinished_of c.if-c-ne0.c) × (c.if-c-ne0.c ≡ (played_of s h).channel) =
    elim c.if-c-ne0.branch [
      | then-c-ne0 w ↦ (
        w.played-is ∙ w.play-played.ensures.0 ∙ ap heard_of same,
        w.unfinished-is ∙ w.any_unfinished-unfinished.ensures ∙ ap any_unfinished_of (sym w.c-is),
        w.c-is ∙ w.play-played.ensures.1 ∙ ap (λ (r : Played). r.channel) same,
      )
      | else-c-ne0 w ↦
          let none : h.count ≡ 0 = ap (λ (d : Channel). d.count) (sym taken) ∙ w.if-c-ne0.false in
          let gone : c.if-c-ne0.c ≡ (played_of s h).channel = w.c-is ∙ taken ∙ none_gone s h none in
          (w.played-is ∙ c.silence-played.ensures ∙ none_heard s h none, w.unfinished-is ∙ none_unfinished s h none ∙ ap any_unfinished_of (sym gone), gone)
    ] in
    let done = sample_done c.args.params c.args.input c.args.c.now c.args.data.now c.if-c-ne0.played c.if-c-ne0.unfinished c.if-c-ne0.c parts.0 parts.1 parts.2 in
    (c.close.ensures.0 ∙ done.0, c.close.ensures.1 ∙ done.1, stored)
