-- `binary32::unit` meets its contract: by `unit_low` and `unit_high`. Assumes nothing.
use Rattle.binary32.proofs.Rests.{unit_low, unit_high, no_nan_bits}
use Rattle.binary32.proofs.unit.Goals as goal

pub float_from_bits-result : goal.float_from_bits-result
float_from_bits-result c = no_nan_bits _ _ _ (unit_low c.args.places c.if-places-lt23.true)

pub float_from_bits-result-else-places-lt23 : goal.float_from_bits-result-else-places-lt23
float_from_bits-result-else-places-lt23 c = no_nan_bits _ _ _ (unit_high c.args.places c.if-places-lt23.false c.requires)

pub returns-then-places-lt23 : goal.returns-then-places-lt23
returns-then-places-lt23 c = unit_low c.args.places c.if-places-lt23.true

pub returns-else-places-lt23 : goal.returns-else-places-lt23
returns-else-places-lt23 c = unit_high c.args.places c.if-places-lt23.false c.requires
