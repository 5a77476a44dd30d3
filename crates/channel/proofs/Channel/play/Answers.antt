-- `Channel::play` meets its contract, by the law of loops that store: each turn is a law of `Turns`. Assumes nothing.
use mathlib.Core.Path.{refl, sym, ap, ◌∙◌}
use lib.ListN.{get_or}
use lib.Ieee.{of_bits}
use Rattle.walks.proofs.Lists.Loops.{turns, stores, ends, begins}
use Rattle.channel.specs.Channels.{with_voices, phrase_at, turning_in}
use Rattle.channel.specs.declared.Channel.{Channel}
use Rattle.channel.specs.declared.Turned.{Turned}
use Rattle.channel.proofs.Slots.{none}
use Rattle.channel.proofs.Turns.{turned_there, rest_of, rest_start, rest_end, rest_keep, rest_gone, tidied_from, tidied_start, tidied_end, tidied_keep, tidied_gone, step_up}
use borrow.Author.Rules.{rules}
use native.Mathlib.Omega.{arith}
use Rattle.channel.proofs.Channel.play.Goals as goal
use Rattle.channel.proofs.Channel.play.Goals.{then-r, else-r}

pub loop-i-init : goal.loop-i-init
unfolding of_bits
loop-i-init c =
    let s = turning_in c.args.params c.args.self c.args.«data».now in
    let all = c.well_formed.0.1.1.0.1.0.1 in (
      begins (rest_of s c.args.self 0 _) c.args.self.voices c.args.self.count _ 32 all c.places-n.ensures,
      search rules,
      begins (tidied_from s 0 0 0) c.args.self.voices c.args.self.count _ 32 all c.places-n.ensures,
      search rules,
      omega (arith, c.places-n.ensures),
      refl,
    )

pub loop-i-preserved : goal.loop-i-preserved
loop-i-preserved c =
    let h = c.loop-i in
    let a = c.args in
    let s = turning_in a.params a.self a.«data».now in
    let below = c.loop-i-test.true in
    let v = get_or h.self.voices h.i none in
    let phrase = c.phrase_at-phrase in
    let room = c.room-room in
    let moment = c.moment_on-at in
    let r = c.take_turn-r.result in
    let same = turned_there a.params a.self a.«data».now v phrase.result (phrase.ensures ∙ ap (λ (d : Channel). phrase_at d v.phrase) h.invariant.5) h.output room.result moment.result r room.ensures.value moment.ensures c.take_turn-r.ensures in
    let turned = ap (λ (x : Turned). x.voice) same in
    let sounds = ap (λ (x : Turned). x.output) same in
    let stays = ap (λ (x : Turned). x.stays) same in
    let is = ap s.leaves (sym turned) in
    elim c.if-r.branch [
      | then-r w ↦ rw (w.self-is, w.moved-is, w.k-is) (
        stores none h.k _ h.invariant.0 below h.invariant.1 (λ vs. rest_keep s h.self _ _ _ _ _ _ turned sounds is vs (sym stays ∙ w.if-r.true)),
        omega arith,
        stores none h.k _ h.invariant.2 below h.invariant.1
            (λ vs. tidied_keep s h.self h.k _ _ _ _ _ turned sounds is vs h.moved h.i h.invariant.1 _ w.moved_up-moved.ensures (sym stays ∙ w.if-r.true)),
        step_up h.moved h.k h.i _ h.invariant.3 w.moved_up-moved.ensures,
        h.invariant.4,
        ap (with_voices _ _) h.invariant.5,
      )
      | else-r w ↦ rw (w.self-is, w.moved-is, w.k-is) (
        turns none h.invariant.0 below (λ vs. rest_gone s h.self _ _ _ _ _ _ turned sounds is vs (sym stays ∙ w.if-r.false)),
        omega arith,
        turns none h.invariant.2 below (λ vs. tidied_gone s h.self h.k _ _ _ _ _ turned sounds is vs h.moved h.i h.invariant.1 (sym stays ∙ w.if-r.false)),
        omega arith,
        h.invariant.4,
        h.invariant.5,
      )
    ]

pub returns : goal.returns
unfolding of_bits
returns c =
    let l = c.loop-i in
    let b = c.args in
    let s = turning_in b.params b.self b.«data».now in
    let sounds = sym (rest_end s l.self _ _) ∙ ends l.invariant.0 c.loop-i-test.false ∙ rest_start s b.self in
    let counts = sym (tidied_end s _ l.k l.i) ∙ ends l.invariant.2 c.loop-i-test.false ∙ tidied_start s b.self in
    record {
      value = λ i. record { channel = (sounds i).channel; output = (sounds i).output; moved = counts i };
      moved_bound = omega (arith, l.invariant.0.upto, l.invariant.3, l.invariant.4);
    }
