-- `recorded` meets its contract: past the end `get_or` gives the pattern 0, which is 0. Assumes nothing.
use mathlib.Core.Path.{sym, ap}
use lib.Ieee.{of_bits, binary32}
use lib.ListN.{get_or-eq_default}
use Rattle.voice.proofs.recorded.Goals as goal

pub returns-else-index-data : goal.returns-else-index-data
returns-else-index-data c = sym (ap (of_bits binary32) (get_or-eq_default c.args.«data».now 0 c.if-index-data.false))
