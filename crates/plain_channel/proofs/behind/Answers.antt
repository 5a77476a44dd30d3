-- `behind` meets its contract: the sample is recorded, the voices behind the first play, and it is closed. Assumes nothing.
use Rattle.std.proofs.Common.{Bool, ◌≤◌, min, sym, ◌∙◌, ap, subst}
use Rattle.channel.specs.declared.Channel.{Channel}
use Rattle.channel.specs.Heads.{closed_of}
use Rattle.channel.specs.Channels.{with_head}
use Rattle.plain_channel.specs.Ahead.{PlaysFrom}
use Rattle.plain_channel.proofs.Ends.{taken_some, plays_as, played_ahead, closes_so}
use Rattle.plain_channel.proofs.behind.Goals as goal
use Rattle.plain_channel.proofs.behind.Goals.{then-c-from, else-c-from}

pub play-played-requires : goal.play-played-requires
play-played-requires c = subst (λ (x : Channel). c.args.from ≤ min x.count 32) (sym c.record.ensures.0) (taken_some c.args.«data».now c.args.from c.args.c.now c.requires)

pub returns : goal.returns
returns c =
    let a = c.args in
    let h = c.record.new.c in
    let j = c.if-c-from in
    let u = c.any_unfinished-unfinished in
    let inside : a.from ≤ min h.count 32 = subst (λ (x : Channel). a.from ≤ min x.count 32) (sym c.record.ensures.0) (taken_some a.«data».now a.from a.c.now c.requires) in
    let plays : PlaysFrom a.params c.record.new.«data» a.from a.first h a.side.now j.played j.c j.side = elim j.branch [
      | then-c-from w ↦ plays_as w.played-is w.c-is w.side-is w.play-played.ensures
      | else-c-from w ↦ plays_as w.played-is w.c-is w.side-is
          (played_ahead a.params c.record.new.«data» a.from a.first h a.side.now c.heard_ahead-played.result inside w.if-c-from.false c.heard_ahead-played.ensures)
    ] in
    closes_so a.params a.input a.from a.first a.c.now a.«data».now a.side.now h c.record.new.«data» c.record.ensures.0 c.record.ensures.1 j.played j.c j.side plays
    c.close.result c.close.ensures.0 c.close.new.c (c.close.ensures.1 ∙ ap (λ (b : Bool). with_head (closed_of a.params b j.c.head) j.c) u.ensures)
