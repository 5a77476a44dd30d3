-- `glide` meets its contract: voices take their turns quickly until one doesn't glide. Assumes nothing.
use Rattle.std.proofs.Common.{rules, arith, ◌∙◌, ℕ, ap, ◌≡◌, ◌≤◌, ◌+◌, length, set, sym, subst}
use lib.Ieee.{Float}
use Rattle.channel.specs.Channels.{with_voices}
use borrow.Author.Tests.{not-false}
use Rattle.lent_channel.specs.declared.Going.{Going}
use Rattle.lent_channel.specs.Turns.{Glides, glided_to}
use Rattle.lent_channel.proofs.Gliding.{Still, still_first, still_next, still_glides}
use Rattle.lent_channel.proofs.glide.Goals as goal

pub loop-i-init : goal.loop-i-init
loop-i-init c = still_first c.args.t c.args.data.now c.args.n c.args.c.now c.args.g c.requires.0 c.requires.1

pub returns-then-not-q : goal.returns-then-not-q
returns-then-not-q c =
    subst (λ (h : Going). Glides c.args.t c.args.data.now c.args.n c.args.c.now c.args.g c.loop-i.c h) (sym c.glided.ensures)
    (still_glides c.args.t c.args.data.now c.args.n c.args.c.now c.args.g c.loop-i.invariant)

pub loop-i-preserved : goal.loop-i-preserved
loop-i-preserved c =
    let all : length c.loop-i.c.voices ≡ 32 = search rules in
    let few : c.args.n ≤ 32 = c.requires.0.few in
    let next = still_next c.args.t c.args.data.now c.args.n c.args.c.now c.args.g c.loop-i.c c.loop-i.i c.loop-i.output c.loop-i.invariant c.loop-i-test.true few all c.quick-q.result c.quick-q.ensures
    (not-false c.quick-q.result.glides c.if-not-q.false) in
    subst (λ (out : Float). Still c.args.t c.args.data.now c.args.n c.args.c.now c.args.g (with_voices (set c.loop-i.c.voices c.loop-i.i c.quick-q.result.voice) c.loop-i.c.count c.loop-i.c) (c.loop-i.i + 1) out) (sym c.added-output.ensures) next

pub returns : goal.returns
returns c =
    let i : c.loop-i.i ≡ c.args.n = let upto = c.loop-i.invariant.upto in omega arith in
    subst (λ (h : Going). Glides c.args.t c.args.data.now c.args.n c.args.c.now c.args.g c.loop-i.c h)
    (ap (λ (k : ℕ). glided_to k c.loop-i.output) i ∙ sym c.glided-2.ensures)
    (still_glides c.args.t c.args.data.now c.args.n c.args.c.now c.args.g c.loop-i.invariant)
