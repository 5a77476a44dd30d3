-- `spot_at` meets its contract, by `spot_is`. Assumes nothing.
use mathlib.Core.Path.{◌≡◌, refl, sym, ap, ◌∙◌, subst}
use mathlib.Core.Bool.{Bool, true, false, ◌&&◌, cond}
use lib.Dec.{T}
use lib.Ieee.{Float, lt, le, eq, of_bits, binary32}
use lib.Ieee.Fits.{and_l, and_r}
use Rattle.binary32.specs.Leaves.{zero32, as_whole}
use Rattle.binary32.proofs.Truth.{yes}
use Rattle.binary32.proofs.Between.{lt_le_trans}
use Rattle.pours.specs.Steady.{Low}
use Rattle.pours.proofs.Placing.{spot_is}
use Rattle.pours.proofs.spot_at.Goals as goal

-- what is told is low, and so is 0
low : (t total top : Float) → T ((le zero32 t && lt t total) && le total top) → T (le zero32 t) × T (lt t top)
low t total top h =
    let b = le zero32 t && lt t total in
    let d = and_l b _ h in
    (and_l (le zero32 t) _ d, lt_le_trans t total top (and_r (le zero32 t) _ d) (and_r b _ h))

lowest : (told : Bool) (t total : Float) → told ≡ ((le zero32 t && lt t total) && le total (of_bits binary32 1258291200)) → Low (cond told t zero32)
unfolding of_bits le lt eq
lowest true t total is = low t total _ (yes (sym is))
lowest false t total is = (tt, tt)

pub whole_of-requires : goal.whole_of-requires
unfolding of_bits
whole_of-requires c = subst Low (sym c.if_told.ensures) (lowest _ c.once_round-t.result c.args.total refl)

pub returns : goal.returns
unfolding of_bits
returns c told =
    let a = c.args in
    let o = c.once_round-t in
    let t = o.result in
    let h = yes told in
    let d = and_l (le zero32 t && lt t a.total) _ h in
    let least = and_l (le zero32 t) _ d in
    let most = and_r (le zero32 t) _ d in
    let s = spot_is a.y a.start a.length a.total _ t c.lower.ensures o.ensures.0 o.ensures.1 least most in
    (s.0, c.whole_of.ensures ∙ ap (as_whole 64) (c.if_told.ensures ∙ ap (λ (b : Bool). cond b t zero32) told) ∙ s.1)
