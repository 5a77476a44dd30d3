-- `Voice::quick` meets its contract: its tests are those that a voice that glides is known by, and where one fails it doesn't answer. Assumes nothing.
use mathlib.Core.Path.{sym, ap, ◌∙◌}
use mathlib.Core.Bool.{true≢false}
use lib.Ieee.{Float, binary32, mul}
use Rattle.voice.specs.Gliding.{quick_at}
use Rattle.voice.proofs.Gliding.{answered}
use Rattle.voice.proofs.Voice.quick.Goals as goal

pub returns-then-self-t : goal.returns-then-self-t
returns-then-self-t c glides = absurd (true≢false (sym glides))

pub returns-then-not-keeps : goal.returns-then-not-keeps
returns-then-not-keeps c glides = absurd (true≢false (sym glides))

pub returns-then-near-ge-NONE : goal.returns-then-near-ge-NONE
returns-then-near-ge-NONE c glides = absurd (true≢false (sym glides))

pub returns-then-next-ge-NONE : goal.returns-then-next-ge-NONE
returns-then-next-ge-NONE c glides = absurd (true≢false (sym glides))

pub returns : goal.returns
returns c =
    let a = c.args in
    let found = c.quick_index-near in
    let keeps = c.keeps in
    let beside = c.quick_beside-next in
    let valued = c.near_valued in
    answered a.t a.«data».now a.self found.result beside.result valued.result found.ensures beside.ensures valued.ensures c.if-near-ge-NONE.false c.if-next-ge-NONE.false
    c.quick_at.result keeps.result (c.quick_at.ensures ∙ ap (λ (level : Float). quick_at a.t a.self found.result.index (mul binary32 valued.result level)) c.level-level.ensures) keeps.ensures c.if-self-t.false
    (c.if-not-keeps.false)
