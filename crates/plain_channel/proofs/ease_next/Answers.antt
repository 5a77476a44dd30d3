-- `ease_next` meets its contract: the voice is poured by what its phrase says, if it eases. Assumes nothing.
use Rattle.std.proofs.Common.{rules, arith, ◌≡◌, ℕ, ◌≤◌, false, sym, ap, ◌∙◌, length, get_or, nat_eq, ne_eqb, subst, Option, ◌-◌, take, drop}
use Rattle.phrases.specs.declared.Phrase.{Phrase}
use Rattle.phrases.specs.Phrases.{no_phrase}
use Rattle.plain_voice.specs.Hots.{cold}
use Rattle.pours.specs.declared.Pouring.{Pouring}
use Rattle.pours.specs.Pours.{Pours}
use Rattle.channel.specs.Heads.{phrase_by}
use Rattle.channel.specs.Channels.{phrase_at}
use Rattle.channel.proofs.Slots.{none}
use Rattle.plain_channel.proofs.Phrasing.{ticked, part_is}
use Rattle.plain_channel.proofs.Pouring.{pours_one}
use Rattle.plain_channel.proofs.ease_next.Goals as goal

pub returns : goal.returns
unfolding cold
returns c =
    let voices : length c.args.c.now.voices ≡ 32 = search rules in
    let sums : length c.args.side.now.pour.sums ≡ 64 = search rules in
    let a = c.args in
    let h = a.c.now in
    let k = (get_or h.voices a.i none).phrase in
    let ph = c.phrase_by-phrase.result in
    let phrase_is : ph ≡ phrase_at h k = c.phrase_by-phrase.ensures ∙ ap (λ (j : ℕ). phrase_by h.head k h.several (get_or h.table j no_phrase)) c.place_of.ensures.value in
    let full : nat_eq (phrase_at h k).length 0 ≡ false = sym (ap (λ (p : Phrase). nat_eq p.length 0) phrase_is) ∙ ne_eqb ph.length 0 c.if-phrase-eq0.false in
    let room : a.n ≤ length a.side.now.pour.sums = let few = c.requires.0.few in omega (arith, few, sums) in
    pours_one a.params a.«data».now a.i a.n h a.side.now voices c.requires.1 c.requires.0.may room
    c.measured-t.result (ticked a.params a.m h k ph c.moment_on.result c.measured-t.result c.requires.2 phrase_is c.moment_on.ensures c.measured-t.ensures)
    _ (part_is h k ph c.room-room.result a.«data».now phrase_is c.room-room.ensures.value) full
    c.poured-poured.new.sums c.poured-poured.new.values c.in-Some.r (subst (λ (x : Option Pouring). Pours (get_or a.side.now.hots a.i cold) (get_or h.voices a.i none) c.measured-t.result (take (c.room-room.result.to - c.room-room.result.from) (drop c.room-room.result.from a.«data».now)) a.n a.side.now.pour.sums c.poured-poured.new.sums x) c.in-Some.is c.poured-poured.ensures)
