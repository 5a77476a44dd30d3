-- `binary32::rem_or_less` meets its contract: where its tests pass, by `hinted`. Assumes nothing.
use Rattle.std.proofs.Common.{not}
use lib.Ieee.{binary64, lt, le, neg, fits, is_nan, of_bits}
use lib.Ieee.Fits.{and_i, and_l, and_r, fits_widens, add-fits}
use Rattle.binary32.proofs.Truth.{yes}
use Rattle.binary32.proofs.Between.{le_not_nan, lt_not_nan}
use Rattle.binary32.proofs.Quotients.{zero, hinted, hinted_casts}
use Rattle.binary32.proofs.rem_or_less.Goals as goal

pub float_to_float-wide : goal.float_to_float-wide
unfolding of_bits
float_to_float-wide c =
    let x = c.args.x in
    and_i (fits binary64 x) (not (is_nan x)) (fits_widens x c.row_known-1.given) (le_not_nan zero x (and_l (le zero x) (lt zero c.args.y) (yes c.if-x-y.true))).1

pub float_to_float-by : goal.float_to_float-by
unfolding of_bits
float_to_float-by c =
    let y = c.args.y in
    and_i (fits binary64 y) (not (is_nan y)) (fits_widens y c.row_known-then-x-y-1.given) (lt_not_nan zero y (and_r (le zero c.args.x) (lt zero y) (yes c.if-x-y.true))).1

pub float_to_float-result : goal.float_to_float-result
unfolding of_bits
float_to_float-result c =
    hinted_casts _ c.args.x c.args.y (add-fits binary64 _ _) c.row_known-1.given c.row_known-then-x-y-1.given (yes c.if-x-y.true) (yes c.if-near-left.true)

pub returns-then-near-left : goal.returns-then-near-left
unfolding of_bits
returns-then-near-left c h =
    hinted _ c.args.x c.args.y (add-fits binary64 _ _) c.row_known-1.given c.row_known-then-x-y-1.given (yes c.if-x-y.true) (yes c.if-near-left.true)

pub returns-else-near-left : goal.returns-else-near-left
unfolding of_bits le neg
returns-else-near-left c h = absurd h

pub returns-else-x-y : goal.returns-else-x-y
unfolding of_bits le neg
returns-else-x-y c h = absurd h
