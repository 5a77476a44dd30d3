-- `near_of` casts what isn't NaN. Assumes nothing.
use mathlib.Core.Bool.{not}
use lib.Ieee.{binary64, lt, fits, is_nan, of_bits}
use lib.Ieee.Fits.{and_i, and_l, and_r, fits_widens}
use Rattle.binary32.specs.Leaves.{zero32}
use Rattle.binary32.proofs.Truth.{yes}
use Rattle.binary32.proofs.Between.{lt_not_nan}
use borrow.Author.Rules.{rules}
use Rattle.pours.proofs.near_of.Goals as goal

pub float_to_float-result : goal.float_to_float-result
unfolding of_bits
float_to_float-result c =
    let x = c.args.x in
    and_i (fits binary64 x) (not (is_nan x)) (fits_widens x (search rules)) (lt_not_nan zero32 x (and_l (lt zero32 x) (lt zero32 c.args.y) (yes c.if-x-y.true))).1

pub float_to_float-result-then-x-y : goal.float_to_float-result-then-x-y
unfolding of_bits
float_to_float-result-then-x-y c =
    let y = c.args.y in
    and_i (fits binary64 y) (not (is_nan y)) (fits_widens y (search rules)) (lt_not_nan zero32 y (and_r (lt zero32 c.args.x) (lt zero32 y) (yes c.if-x-y.true))).1
