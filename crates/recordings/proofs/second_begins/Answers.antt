-- `second_begins` meets its contract: of two channels the second is a good one. Assumes nothing.
use Rattle.std.proofs.Common.{◌≡◌, ℕ, ◌+◌, false, length, get_or, refl, ap, ◌∙◌, le_trans, le_of_eq, arith, rules, ne_eqb}
use Rattle.walks.proofs.Lists.Loops.{get_d_any}
use Rattle.channel.specs.declared.Channel.{Channel}
use Rattle.channel.specs.contracts.Channel as C
use Rattle.channel.specs.Channels.{channel_of}
use Rattle.sampler.proofs.Seats.{none}
use Rattle.recordings.proofs.Element.{element}
use Rattle.recordings.proofs.Parts.{second_begins_there, second_begins_small}
use Rattle.recordings.proofs.second_begins.Goals as goal

pub overflow_add-result : goal.overflow_add-result
overflow_add-result c =
    let s = c.args.s in
    let two = c.if-s-eq2.true in
    let seats = c.well_formed.0.1.1.0.1.0.1 in
    let table : length (get_or s.channels 1 none).table ≡ 8 =
    (element (C.the_row).own_val s.channels c.well_formed.0.1.1.0.0 1 none (omega (arith, seats)) c.well_formed.0.1.1.0.1.1).1.1.1.1.0.1.0.1 in
    let past : Channel = channel_of (record { auto_passthru = false }) in
    let eight = ap (λ (d : Channel). length d.table) (get_d_any s.channels 1 past none (omega (arith, seats))) ∙ table in
    let small = le_trans (le_of_eq (ap (λ (n : ℕ). s.capacity + n) c.begins.ensures ∙ second_begins_there s two seats none)) (second_begins_small s two c.requires eight) in
    search rules

pub returns-then-s-eq2 : goal.returns-then-s-eq2
returns-then-s-eq2 c =
    let s = c.args.s in
    ap (λ (n : ℕ). s.capacity + n) c.begins.ensures ∙ second_begins_there s c.if-s-eq2.true (search rules) none

pub returns : goal.returns
returns c = rw (ne_eqb _ 2 c.if-s-eq2.false) refl
