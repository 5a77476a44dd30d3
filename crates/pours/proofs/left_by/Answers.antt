-- `left_by` meets its contract: where its tests pass, by `hinted`, for any number near the quotient. Assumes nothing.
-- what is above 0 is at least 0
use mathlib.Core.Bool.{not, ◌&&◌}
use lib.Dec.{T}
use lib.Ieee.{Float, binary64, lt, le, fits, is_nan, of_bits}
use lib.Ieee.Fits.{and_i, and_l, and_r, fits_widens}
use Rattle.binary32.specs.Leaves.{zero32}
use Rattle.binary32.proofs.Truth.{yes}
use Rattle.binary32.proofs.Between.{lt_not_nan, lt→le}
use Rattle.binary32.proofs.Quotients.{hinted, hinted_casts}
use borrow.Author.Rules.{rules}
use Rattle.pours.proofs.left_by.Goals as goal

both : (x y : Float) → T (lt zero32 x && lt zero32 y) → T (le zero32 x && lt zero32 y)
both x y h = and_i (le zero32 x) (lt zero32 y) (lt→le zero32 x (and_l (lt zero32 x) (lt zero32 y) h)) (and_r (lt zero32 x) (lt zero32 y) h)

inside : (s e r y : Float) → T (lt s e && lt zero32 r && lt r y) → T (lt s e && le zero32 r && lt r y)
inside s e r y h =
    let b = lt s e && lt zero32 r in
    let f = and_l b (lt r y) h in
    and_i (lt s e && le zero32 r) (lt r y) (and_i (lt s e) (le zero32 r) (and_l (lt s e) (lt zero32 r) f) (lt→le zero32 r (and_r (lt s e) (lt zero32 r) f))) (and_r b (lt r y) h)

pub float_to_float-wide : goal.float_to_float-wide
unfolding of_bits
float_to_float-wide c =
    let x = c.args.x in
    and_i (fits binary64 x) (not (is_nan x)) (fits_widens x (search rules)) (lt_not_nan zero32 x (and_l (lt zero32 x) (lt zero32 c.args.y) (yes c.if-x-y.true))).1

pub float_to_float-by : goal.float_to_float-by
unfolding of_bits
float_to_float-by c =
    let y = c.args.y in
    and_i (fits binary64 y) (not (is_nan y)) (fits_widens y (search rules)) (lt_not_nan zero32 y (and_r (lt zero32 c.args.x) (lt zero32 y) (yes c.if-x-y.true))).1

pub float_to_float-result : goal.float_to_float-result
unfolding of_bits
float_to_float-result c =
    let a = c.args in
    hinted_casts a.near a.x a.y (search rules) (search rules) (search rules) (both a.x a.y (yes c.if-x-y.true)) (inside _ _ _ _ (yes c.if-near-left.true))

pub returns-then-near-left : goal.returns-then-near-left
unfolding of_bits
returns-then-near-left c h =
    let a = c.args in
    (and_l (lt zero32 a.x) (lt zero32 a.y) (yes c.if-x-y.true), hinted a.near a.x a.y (search rules) (search rules) (search rules) (both a.x a.y (yes c.if-x-y.true)) (inside _ _ _ _ (yes c.if-near-left.true)))

pub returns-else-near-left : goal.returns-else-near-left
unfolding of_bits lt
returns-else-near-left c h = absurd h

pub returns-else-x-y : goal.returns-else-x-y
unfolding of_bits lt
returns-else-x-y c h = absurd h
