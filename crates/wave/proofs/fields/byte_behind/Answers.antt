-- `byte_behind` meets its contract: a file is shorter. Assumes nothing.
use mathlib.Core.Path.{sym}
use native.Mathlib.Omega.{arith}
use lib.ListN.{get_or-eq_default}
use Rattle.wave.proofs.fields.byte_behind.Goals as goal

pub returns-else-at-lt9223372036854775808 : goal.returns-else-at-lt9223372036854775808
returns-else-at-lt9223372036854775808 c = sym (get_or-eq_default c.args.file.now 0 (omega arith))
