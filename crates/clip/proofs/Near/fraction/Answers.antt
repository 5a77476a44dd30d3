-- `Near::fraction` meets its contract. Assumes nothing.
use native.Mathlib.Omega.{arith}
use lib.Ieee.{binary32, of_bits}
use borrow.Author.Rules.{rules}
use Rattle.binary32.proofs.Halves.{castable}
use Rattle.binary32.proofs.Parts.{rest_by_index, rest_from_whole}
use Rattle.clip.specs.Positions.{position_of}
use Rattle.clip.proofs.Near.fraction.Goals as goal

pub int_to_float-result : goal.int_to_float-result
int_to_float-result c = castable binary32 _ (omega (arith, c.if-self-lt16777216.true))

pub returns-then-self-lt16777216 : goal.returns-then-self-lt16777216
unfolding position_of of_bits
returns-then-self-lt16777216 c some is low =
    let a = c.args.self in
    rest_by_index a.offset a.index (search rules) low is c.if-self-lt16777216.true

pub returns-else-self-lt16777216 : goal.returns-else-self-lt16777216
unfolding position_of of_bits
returns-else-self-lt16777216 c some is low =
    let a = c.args.self in
    rest_from_whole a.offset a.index (search rules) low is c.if-self-lt16777216.false some
