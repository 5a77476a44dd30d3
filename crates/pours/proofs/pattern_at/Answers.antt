-- `pattern_at` meets its contract. Assumes nothing.
use mathlib.Core.Path.{sym}
use lib.ListN.{get_or-eq_default}
use Rattle.pours.proofs.pattern_at.Goals as goal

pub returns-else-index-data : goal.returns-else-index-data
returns-else-index-data c = sym (get_or-eq_default c.args.«data».now 0 c.if-index-data.false)
