-- `binary32::crossing` meets its contract: its tests are those of `crossing_of`, a NaN's in front. Assumes nothing.
use Rattle.std.proofs.Common.{rules}
use Rattle.binary32.proofs.Truth.{no}
use Rattle.binary32.proofs.Signs.{neither, crossing_nan, crossing_signs}
use Rattle.binary32.proofs.crossing.Goals as goal

pub returns-then-value-last : goal.returns-then-value-last
returns-then-value-last c = crossing_nan c.args.value c.args.last c.if-value-last.true

pub float_to_bits-result : goal.float_to_bits-result
float_to_bits-result c = no (neither c.args.value c.args.last c.if-value-last.false).0

pub float_to_bits-result-2 : goal.float_to_bits-result-2
float_to_bits-result-2 c = no (neither c.args.value c.args.last c.if-value-last.false).1

pub returns : goal.returns
returns c = crossing_signs c.args.value c.args.last (search rules) (search rules) c.if-value-last.false
