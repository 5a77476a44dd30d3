-- `Clip::moved_at` meets its contract: the four parts in their order, and nothing if each of them is skipped. Assumes nothing.
use mathlib.Core.Path.{sym, ap, ◌∙◌}
use Rattle.clip.specs.Positions.{standing_of}
use Rattle.clip.specs.Updates.{with_length, with_speed, with_data_length, with_mode}
use Rattle.clip.specs.declared.Clip.{Clip}
use Rattle.clip.specs.declared.Standing.{Standing}
use Rattle.clip.proofs.Standings.{standing_stands}
use Rattle.clip.proofs.AtOnce.{skips_all}
use Rattle.clip.proofs.Clip.moved_at.Goals as goal

pub returns-then-same_all : goal.returns-then-same_all
returns-then-same_all c =
    let a = c.args in
    c.standing_at-standing.ensures
    ∙ ap (λ (d : Clip). standing_of d a.now)
    (sym (skips_all a.self a.now a.length a.speed a.data_length a.mode (sym c.same_all.ensures ∙ c.if-same_all.true)))

pub sized-requires : goal.sized-requires
sized-requires c = standing_stands _ _ _ c.standing_at-standing.ensures

pub paced-requires : goal.paced-requires
paced-requires c = standing_stands _ _ _ c.sized.ensures

pub cut-requires : goal.cut-requires
cut-requires c = standing_stands _ _ _ c.paced.ensures

pub turned-requires : goal.turned-requires
turned-requires c = standing_stands _ _ _ c.cut.ensures

pub returns : goal.returns
unfolding standing_of
returns c =
    let a = c.args in
    c.turned.ensures
    ∙ ap (λ (s : Standing). standing_of (with_mode s.clip s.now a.mode) s.now)
    (c.cut.ensures
    ∙ ap (λ (s : Standing). standing_of (with_data_length s.clip s.now a.data_length) s.now)
    (c.paced.ensures
    ∙ ap (λ (s : Standing). standing_of (with_speed s.clip s.now a.speed) s.now)
    (c.sized.ensures
    ∙ ap (λ (s : Standing). standing_of (with_length s.clip s.now a.length) s.now) c.standing_at-standing.ensures)))
