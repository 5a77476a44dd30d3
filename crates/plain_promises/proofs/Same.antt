-- The second engine leaves what the first leaves, and of what is lent beside it one value and no other. Assumes nothing.
use mathlib.Core.Path.{◌≡◌, refl, sym, ap, ◌∙◌, subst}
use mathlib.Core.List.{List, [], ◌∷◌}
use Rattle.plain_sampler.specs.declared.Backing.{Backing}
use Rattle.promises.specs.Runs.{World, after, Made, one, frames, made, makes}
use Rattle.promises.specs.Outcomes.{on, along}
use Rattle.promises.proofs.Outcomes.{settled, left_after, left_along}
use Rattle.plain_promises.specs.Backed.{beside_after, beside_made, beside_all, Backed, ended, called, ran, SameEngine}

backed_makes : {w u : World} {k z : Backing} {hs : List Made} → Backed w k hs u z → (u ≡ makes w hs) × (z ≡ beside_all w hs k)
unfolding makes made beside_all beside_made
backed_makes ended = (refl, refl)
backed_makes (called {w} {u} {k} {l} {z} {c} {hs} r h e b) =
    let on = left_after w c r h in
    let rest = backed_makes b in
    (rest.0 ∙ ap (λ (v : World). makes v hs) on, rest.1 ∙ (λ t. beside_all (on t) hs (e t)))
backed_makes (ran {w} {u} {k} {l} {z} {xs} {p} {hs} r h e b) =
    let on = left_along w xs p r h in
    let rest = backed_makes b in
    (rest.0 ∙ ap (λ (v : World). makes v hs) on, rest.1 ∙ (λ t. beside_all (on t) hs (e t)))

makes_backed : (w : World) (k : Backing) (hs : List Made) → Backed w k hs (makes w hs) (beside_all w hs k)
unfolding makes made beside_all beside_made
makes_backed w k [] = ended
makes_backed w k (one c ∷ hs) =
    let s = settled (on w c) in
    let l = beside_after w c k in
    called s.outcome s.allowed refl
    (subst (λ (v : World). Backed v l hs (makes (after w c) hs) (beside_all (after w c) hs l)) (sym (left_after w c s.outcome s.allowed)) (makes_backed (after w c) l hs))
makes_backed w k (frames xs p ∷ hs) =
    let s = settled (along w xs p) in
    let l = beside_made w (frames xs p) k in
    let u = made w (frames xs p) in
    ran s.outcome s.allowed refl
    (subst (λ (v : World). Backed v l hs (makes u hs) (beside_all u hs l)) (sym (left_along w xs p s.outcome s.allowed)) (makes_backed u l hs))

pub same_engine : (w : World) (k : Backing) (hs : List Made) → SameEngine w k hs
same_engine w k hs = record { runs_same = λ u z b. backed_makes b; runs = makes_backed w k hs }
