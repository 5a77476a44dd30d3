-- `cool_glide` meets its contract: voices take their turns until one is plain, or doesn't glide. Assumes nothing.
use Rattle.std.proofs.Common.{rules, arith, ◌≡◌, ◌≤◌, ◌<◌, length, ap, ◌∙◌, ℕ}
use borrow.Author.Tests.{not-false}
use Rattle.walks.proofs.Lists.Loops.{get_d_any}
use Rattle.voice.specs.Voices.{blank_voice}
use Rattle.plain_voice.specs.Hots.{cold}
use Rattle.channel.proofs.Slots.{none}
use Rattle.lent_channel.specs.Turns.{glided_to}
use Rattle.plain_channel.proofs.Gliding.{still_first, still_glides, cool_next}
use Rattle.plain_channel.proofs.cool_glide.Goals as goal

pub loop-i-init : goal.loop-i-init
loop-i-init c = let a = c.args in still_first a.t a.«data».now a.n a.c.now a.side.now a.g c.requires.0 c.requires.1

pub returns-then-side-i : goal.returns-then-side-i
returns-then-side-i c = still_glides c.loop-i.invariant c.glided.result c.glided.ensures

pub returns-then-not-q : goal.returns-then-not-q
returns-then-not-q c = still_glides c.loop-i.invariant c.glided-then-not-q.result c.glided-then-not-q.ensures

pub loop-i-preserved : goal.loop-i-preserved
unfolding cold
loop-i-preserved c =
    let l = c.loop-i in
    let few : c.args.n ≤ 32 = c.requires.0.few in
    let below : l.i < c.args.n = c.loop-i-test.true in
    let voices : length l.c.voices ≡ 32 = search rules in
    let hots : length c.args.side.now.hots ≡ 32 = search rules in
    let inside : l.i < length l.c.voices = omega (arith, below, few, voices) in
    rw c.added-output.ensures
    (cool_next l.invariant below few voices hots _ (get_d_any l.c.voices l.i blank_voice none inside) c.quick-q.result (not-false c.quick-q.result.glides c.if-not-q.false) c.quick-q.ensures c.if-side-i.false)

pub returns : goal.returns
returns c =
    let l = c.loop-i in
    let end : c.args.n ≡ l.i = omega (arith, l.invariant.inside, c.loop-i-test.false) in
    still_glides l.invariant c.glided-2.result (c.glided-2.ensures ∙ ap (λ (i : ℕ). glided_to i l.output) end)
