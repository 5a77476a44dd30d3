-- `Hot::quick` meets its contract: its tests are those that a voice that glides is known by, and the position agrees. Assumes nothing.
use Rattle.std.proofs.Common.{sym, ap, ◌∙◌, lit<}
use lib.Ieee.{binary32, mul}
use borrow.Author.Tests.{not-false}
use Rattle.volume.specs.declared.Held.{Held}
use Rattle.voice.specs.declared.Quick.{Quick}
use Rattle.voice.specs.Voices.{recorded_value_of}
use Rattle.voice.specs.Gliding.{quick_at}
use Rattle.voice.proofs.Values.{value_off}
use Rattle.voice.proofs.Gliding.{quickly_at}
use Rattle.plain_voice.specs.Hots.{judged_of}
use Rattle.plain_voice.proofs.Hots.{stepped_on}
use Rattle.plain_voice.proofs.Hot.quick.Goals as goal

pub returns : goal.returns
unfolding quick_at
returns c is =
    let a = c.args in
    let index = c.in-Some.index in
    let found = c.index.ensures index c.in-Some.is is in
    let agrees = found.0 in
    let heard = c.recorded in
    let held = c.held-held in
    let turn = c.quick_at in
    let told = turn.ensures ∙ ap (λ (h : Held). quick_at a.t a.v index (mul binary32 heard.result h.level)) held.ensures in (
      quickly_at a.t a.«data».now a.v index heard.result agrees.same found.1
          (heard.ensures ∙ ap (recorded_value_of a.«data».now) found.1 ∙ sym (value_off a.t a.«data».now a.v.clip2 agrees.sharp))
          turn.result held.result.keeps told (ap (λ (h : Held). h.keeps) held.ensures) c.if-v-t.false (not-false held.result.keeps c.if-not-held.false),
      λ g plain. stepped_on agrees (lit< tt) plain ∙ ap (λ (q : Quick). judged_of a.self a.t.interpolates q.voice.clip2 a.t.now) (sym told),
    )
