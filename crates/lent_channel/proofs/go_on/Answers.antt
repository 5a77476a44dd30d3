-- `go_on` meets its contract: the next voice rests where its phrase is empty, and else a stretch of turns begins with its own. Assumes nothing.
use Rattle.std.proofs.Common.{rules, ◌≡◌, ℕ, length, get_or, ap, ◌∙◌}
use Rattle.phrases.specs.Phrases.{no_phrase}
use Rattle.channel.specs.Heads.{phrase_by}
use Rattle.channel.specs.Channels.{phrase_at, turning_in}
use Rattle.channel.proofs.Slots.{none}
use Rattle.lent_channel.proofs.Turns.{next_rests, next_ticks, next_follows}
use Rattle.lent_channel.proofs.go_on.Goals as goal

pub returns-then-phrase-eq0 : goal.returns-then-phrase-eq0
returns-then-phrase-eq0 c =
    let h = c.args.c.now in
    let g = c.args.g in
    let all : length h.voices ≡ 32 = search rules in
    let k : ℕ = (get_or h.voices g.place none).phrase in
    let is : c.phrase_by-phrase.result ≡ phrase_at h k = c.phrase_by-phrase.ensures ∙ ap (λ (j : ℕ). phrase_by h.head k h.several (get_or h.table j no_phrase)) c.place_of.ensures.value in
    let goes = next_rests c.args.params h g c.args.n c.args.data.now c.requires.0 c.requires.1 all c.phrase_by-phrase.result is c.if-phrase-eq0.true
    c.rest_next.result c.rest_next.new.c c.rest_next.ensures.next c.rest_next.ensures.channel in
    record { further = goes.0; onward = goes.1; all = all }

pub stretch-requires : goal.stretch-requires
stretch-requires c =
    let h = c.args.c.now in
    let g = c.args.g in
    let all : length h.voices ≡ 32 = search rules in
    let k : ℕ = (get_or h.voices g.place none).phrase in
    let is : c.phrase_by-phrase.result ≡ phrase_at h k = c.phrase_by-phrase.ensures ∙ ap (λ (j : ℕ). phrase_by h.head k h.several (get_or h.table j no_phrase)) c.place_of.ensures.value in
    next_ticks c.args.params h g c.args.n c.args.data.now c.requires.0 c.requires.1 all c.phrase_by-phrase.result is c.args.m c.requires.2 c.moment_on.result c.moment_on.ensures c.measured-t.result c.measured-t.ensures

pub returns : goal.returns
returns c =
    let h = c.args.c.now in
    let g = c.args.g in
    let all : length h.voices ≡ 32 = search rules in
    let k : ℕ = (get_or h.voices g.place none).phrase in
    let is : c.phrase_by-phrase.result ≡ phrase_at h k = c.phrase_by-phrase.ensures ∙ ap (λ (j : ℕ). phrase_by h.head k h.several (get_or h.table j no_phrase)) c.place_of.ensures.value in
    record {
      further = c.stretch.ensures.0;
      onward = c.stretch.ensures.1 (turning_in c.args.params h c.args.data.now)
          (next_follows c.args.params h g c.args.n c.args.data.now c.requires.0 c.requires.1 all c.phrase_by-phrase.result is c.args.m c.requires.2 c.moment_on.result c.moment_on.ensures
          c.measured-t.result c.measured-t.ensures c.if-phrase-eq0.false c.room-room.result c.room-room.ensures.value);
      all = all;
    }
