-- `stereo_line` meets its contract. Assumes nothing.
use mathlib.Core.Path.{ap, ◌∙◌}
use native.Mathlib.Omega.{arith}
use lib.Dec.{lit≤}
use Rattle.decimal.specs.Lines.{line_of}
use Rattle.listing.proofs.Outputs.{two-line}
use Rattle.listing.proofs.Printed.{printed_one, printed_output, printed_count}
use Rattle.listing.proofs.texts.stereo_line.Goals as goal

pub returns : goal.returns
returns c = let a = c.args in
    let both = printed_output (printed_one a.clock a.first c.begun.ensures (omega arith)) a.second c.with_output-both.ensures (lit≤ tt) in
    printed_count both a.count c.counted.ensures (omega arith) (lit≤ tt) ∙ ap line_of (two-line a.clock a.count a.first a.second)
