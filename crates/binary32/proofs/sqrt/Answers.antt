-- `binary32::sqrt` meets its contract, by a law of `RootCases` for each arm. Assumes nothing.
use Rattle.std.proofs.Common.{ap, ◌∙◌, rules}
use lib.Ieee.{of_bits}
use Rattle.binary32.specs.Leaves.{root_of}
use Rattle.binary32.proofs.Truth.{no}
use Rattle.binary32.proofs.Patterns.{value_back}
use Rattle.binary32.proofs.RootCases.{above_no_nan, above_pattern, infinite, below-zero, zero_or_nan}
use Rattle.binary32.proofs.sqrt.Goals as goal

pub float_to_bits-pattern : goal.float_to_bits-pattern
unfolding of_bits
float_to_bits-pattern c = no (above_no_nan c.args.x c.if-x.true)

pub root_of-requires : goal.root_of-requires
unfolding of_bits
root_of-requires c = (above_pattern c.args.x (search rules) c.if-x.true, c.if-pattern-lt2139095040.true)

pub returns-then-pattern-lt2139095040 : goal.returns-then-pattern-lt2139095040
returns-then-pattern-lt2139095040 c = c.root_of.ensures ∙ ap root_of (value_back c.args.x (search rules))

pub returns-else-pattern-lt2139095040 : goal.returns-else-pattern-lt2139095040
unfolding of_bits
returns-else-pattern-lt2139095040 c = infinite c.args.x (search rules) c.if-x.true c.if-pattern-lt2139095040.false

pub returns-then-x-2 : goal.returns-then-x-2
unfolding of_bits
returns-then-x-2 c = c.not_a_number.ensures ∙ below-zero c.args.x c.if-x-2.true

pub returns-else-x-2 : goal.returns-else-x-2
unfolding of_bits
returns-else-x-2 c = zero_or_nan c.args.x (search rules) c.if-x.false c.if-x-2.false
