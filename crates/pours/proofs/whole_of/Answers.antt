-- `whole_of` meets its contract, by `sum_pattern`. Assumes nothing.
use mathlib.Core.Bool.{not}
use lib.Ieee.{binary64, fits, is_nan, of_bits}
use lib.Ieee.Fits.{and_i, fits_widens}
use Rattle.binary32.specs.Leaves.{zero32}
use Rattle.binary32.proofs.Between.{le_not_nan}
use Rattle.binary32.proofs.SumPatterns.{sum_pattern, sum_not_nan}
use borrow.Author.Rules.{rules}
use Rattle.pours.proofs.whole_of.Goals as goal

pub float_to_float-result : goal.float_to_float-result
float_to_float-result c =
    let x = c.args.x in
    and_i (fits binary64 x) (not (is_nan x)) (fits_widens x (search rules)) (le_not_nan zero32 x c.requires.0).1

pub float_to_bits-result : goal.float_to_bits-result
unfolding of_bits
float_to_bits-result c = sum_not_nan c.args.x (search rules) c.requires.0 c.requires.1

pub returns : goal.returns
unfolding of_bits
returns c = sum_pattern c.args.x (search rules) c.requires.0 c.requires.1
