-- `go_on` meets its contract: a voice whose phrase is empty rests, and others go on by what their phrase says. Assumes nothing.
use Rattle.std.proofs.Common.{rules, arith, ◌≡◌, ℕ, ◌-◌, ◌≤◌, ◌<◌, false, true, sym, ap, ◌∙◌, subst, length, get_or, take, drop, nat_eq, ne_eqb}
use Rattle.walks.proofs.Lists.Loops.{get_d_any}
use Rattle.phrases.specs.declared.Phrase.{Phrase}
use Rattle.phrases.specs.Phrases.{no_phrase}
use Rattle.voice.specs.declared.Tick.{Tick}
use Rattle.voice.specs.Voices.{blank_voice, tick_of}
use Rattle.channel.specs.Heads.{phrase_by}
use Rattle.channel.specs.Channels.{phrase_at, moment_for, turning_in}
use Rattle.channel.proofs.Slots.{none}
use Rattle.channel.proofs.Turns.{Rests, turning_rests}
use Rattle.lent_channel.specs.declared.Going.{Going}
use Rattle.lent_channel.specs.Turns.{next_voice, Follows}
use Rattle.lent_channel.proofs.Turns.{follows_own}
use Rattle.plain_channel.specs.Sides.{followed_by}
use Rattle.plain_channel.proofs.Judging.{rest_follows}
use Rattle.plain_channel.proofs.Phrasing.{ticked, part_is}
use Rattle.plain_channel.proofs.go_on.Goals as goal

pub returns-then-phrase-eq0 : goal.returns-then-phrase-eq0
returns-then-phrase-eq0 c =
    let a = c.args in
    let h = a.c.now in
    let i = a.g.place in
    let voices : length h.voices ≡ 32 = search rules in
    let hots : length a.side.now.hots ≡ 32 = search rules in
    let few : a.n ≤ 32 = c.requires.0.few in
    let below : i < a.n = c.requires.1 in
    let inside : i < length h.voices = omega (arith, few, below, voices) in
    let k = (get_or h.voices i none).phrase in
    let phrase_is : c.phrase_by-phrase.result ≡ phrase_at h k = c.phrase_by-phrase.ensures ∙ ap (λ (j : ℕ). phrase_by h.head k h.several (get_or h.table j no_phrase)) c.place_of.ensures.value in
    let empty : nat_eq (phrase_at h k).length 0 ≡ true = sym (ap (λ (p : Phrase). nat_eq p.length 0) phrase_is) ∙ ap (λ (m : ℕ). nat_eq m 0) c.if-phrase-eq0.true in
    let rests : Rests (turning_in a.params h a.«data».now) (next_voice a.g h) =
    subst (Rests (turning_in a.params h a.«data».now)) (get_d_any h.voices i none blank_voice inside) (turning_rests a.params h a.«data».now (get_or h.voices i none) empty) in
    let r = c.rest_next-r in
    let f = c.followed in
    rest_follows (turning_in a.params h a.«data».now) a.n h a.side.now a.g c.requires.0 below voices hots rests f.result r.new.c (f.ensures.0 ∙ r.ensures.next, r.ensures.channel)
    f.new.side (f.ensures.1 ∙ ap (λ (x : Going). followed_by r.new.c a.g x a.side.now) (sym f.ensures.0))

pub returns : goal.returns
returns c =
    let a = c.args in
    let h = a.c.now in
    let ms = a.«data».now in
    let k = (get_or h.voices a.g.place none).phrase in
    let ph = c.phrase_by-phrase.result in
    let phrase_is : ph ≡ phrase_at h k = c.phrase_by-phrase.ensures ∙ ap (λ (j : ℕ). phrase_by h.head k h.several (get_or h.table j no_phrase)) c.place_of.ensures.value in
    let full : nat_eq (phrase_at h k).length 0 ≡ false = sym (ap (λ (p : Phrase). nat_eq p.length 0) phrase_is) ∙ ne_eqb ph.length 0 c.if-phrase-eq0.false in
    let rm = c.room-room.result in
    let s = turning_in a.params h ms in
    let follows : Follows s c.measured-t.result (take (rm.to - rm.from) (drop rm.from ms)) =
    subst (λ (t : Tick). Follows s t (take (rm.to - rm.from) (drop rm.from ms))) (sym (ticked a.params a.m h k ph c.moment_on.result c.measured-t.result c.requires.2 phrase_is c.moment_on.ensures c.measured-t.ensures))
    (subst (Follows s (tick_of a.params (moment_for h k))) (sym (part_is h k ph rm ms phrase_is c.room-room.ensures.value)) (follows_own a.params h ms k full)) in
    (c.stretch.ensures.0, c.stretch.ensures.1 s follows)
