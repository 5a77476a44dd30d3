-- `mono_line` meets its contract. Assumes nothing.
use mathlib.Core.Path.{ap, ◌∙◌}
use native.Mathlib.Omega.{arith}
use lib.Dec.{lit≤}
use Rattle.decimal.specs.Lines.{line_of}
use Rattle.listing.proofs.Outputs.{one_line}
use Rattle.listing.proofs.Printed.{printed_one, printed_count}
use Rattle.listing.proofs.texts.mono_line.Goals as goal

pub returns : goal.returns
returns c = let a = c.args in
    printed_count (printed_one a.clock a.output c.begun.ensures (omega arith)) a.count c.counted.ensures (omega arith) (lit≤ tt) ∙ ap line_of (one_line a.clock a.count a.output a.output)
