-- `change` meets its contract: the voices are gone through, then the rest is stored. Assumes nothing.
use Rattle.std.proofs.Common.{rules, arith, ◌≡◌, ◌≤◌, ◌<◌, ◌+◌, Bool, List, length, set, cond, sym, ap, subst, ◌∙◌}
use Rattle.channel.specs.declared.Channel.{Channel}
use Rattle.channel.specs.declared.Entry.{Entry}
use Rattle.channel.specs.Channels.{with_voices}
use Rattle.phrases.specs.declared.Phrase.{Phrase}
use Rattle.phrases.specs.Phrases.{no_phrases}
use Rattle.channel.specs.Tables.{place_of}
use Rattle.lent_changes.specs.declared.Pass.{Pass}
use Rattle.lent_changes.specs.Changes.{started_voice}
use Rattle.lent_changes.proofs.Passes.{few_turns}
use Rattle.lent_changes.proofs.Goings.{begins, Goes, goes_first, has_hit, has_missed, room_left, opens_one, opens_none, goes_done}
use Rattle.lent_changes.proofs.change.Goals as goal
use Rattle.lent_changes.proofs.change.Goals.{then-hit, else-hit, then-p, else-p, then-e, else-e}

pub loop-i-init : goal.loop-i-init
loop-i-init c =
    let turns : c.pass_of-p.result.turns ≡ (begins c.args.change c.args.c.now).turns = ap (λ (p : Pass). p.turns) c.pass_of-p.ensures in
    let few = few_turns c.args.change c.args.c.now in
    record {
      turns = turns;
      few = omega (arith, turns, few);
      goes = subst (λ (p : Pass). Goes c.args.change c.args.c.now c.args.c.now p 0) (sym c.pass_of-p.ensures) (goes_first c.args.change c.args.c.now);
    }

pub loop-i-preserved : goal.loop-i-preserved
loop-i-preserved c =
    let g = c.loop-i.invariant.goes in
    let turns = c.loop-i.invariant.turns in
    let lt : c.loop-i.i < (begins c.args.change c.args.c.now).turns = omega (arith, turns) in
    record {
      turns = turns;
      few = c.loop-i.invariant.few;
      goes = elim c.if-hit.branch [
        | then-hit w ↦ subst (λ (d : Channel). Goes c.args.change c.args.c.now d c.passed-p.result (c.loop-i.i + 1)) (sym w.c-is)
            (has_hit c.args.change c.args.c.now c.loop-i.c c.loop-i.p c.loop-i.i g lt c.hits-hit.result c.hits-hit.ensures c.passed-p.result c.passed-p.ensures w.remade-w.result w.remade-w.ensures w.if-hit.true)
        | else-hit w ↦ subst (λ (d : Channel). Goes c.args.change c.args.c.now d c.passed-p.result (c.loop-i.i + 1)) (sym w.c-is)
            (has_missed c.args.change c.args.c.now c.loop-i.c c.loop-i.p c.loop-i.i g lt c.hits-hit.result c.hits-hit.ensures c.passed-p.result c.passed-p.ensures w.if-hit.false)
      ];
    }

pub offset_bounds-c-at : goal.offset_bounds-c-at
offset_bounds-c-at c =
    let room = room_left c.args.change c.args.c.now c.loop-i.c c.loop-i.p c.loop-i.i c.loop-i.invariant.goes c.if-p.true in
    omega (arith, room)

pub bounds-c-at : goal.bounds-c-at
bounds-c-at c = room_left c.args.change c.args.c.now c.loop-i.c c.loop-i.p c.loop-i.i c.loop-i.invariant.goes c.if-p.true

pub returns : goal.returns
returns c =
    let x = c.args.change in
    let h : Channel = c.args.c.now in
    let d : Channel = c.loop-i.c in
    let p : Pass = c.loop-i.p in
    let g : Goes x h d p c.loop-i.i = c.loop-i.invariant.goes in
    let turns = c.loop-i.invariant.turns in
    let end : (begins x h).turns ≤ c.loop-i.i = omega (arith, turns) in
    let opened : c.if-p.c ≡ with_voices (cond p.fresh (set d.voices h.count (started_voice x h.head)) d.voices) h.count h = elim c.if-p.branch [
      | then-p w ↦ w.c-is ∙ opens_one x h d p c.loop-i.i g w.if-p.true w.opened-w.result w.opened-w.ensures
      | else-p w ↦ w.c-is ∙ opens_none x h d p c.loop-i.i g w.if-p.false
    ] in
    let all : length c.if-p.c.voices ≡ 32 = search rules in
    let eight : length c.if-p.c.table ≡ 8 = search rules in
    let f : Channel = c.if-p.c in
    let e : Entry = c.entry_of-e.result in
    let with_table : List Phrase → Channel = λ t. record { voices = f.voices; table = t; count = p.count; head = f.head; several = f.several } in
    let emptied : c.if-e.c ≡ record { voices = f.voices; table = cond e.clears no_phrases f.table; count = p.count; head = f.head; several = f.several } = elim c.if-e.branch [
      | then-e w ↦ w.c-is ∙ ap with_table w.none-c.ensures ∙ sym (ap (λ (b : Bool). with_table (cond b no_phrases f.table)) w.if-e.true)
      | else-e w ↦ w.c-is ∙ sym (ap (λ (b : Bool). with_table (cond b no_phrases f.table)) w.if-e.false)
    ] in
    goes_done x h d p c.loop-i.i g end f opened all eight c.place_of.result (c.place_of.ensures.value ∙ ap place_of c.names.ensures) c.beside.result c.beside.ensures c.aside_of-aside.result c.aside_of-aside.ensures e c.entry_of-e.ensures.value
    c.if-e.c emptied c.ended-c.result c.ended-c.ensures
