-- `with_output` meets its contract. Assumes nothing.
use Rattle.listing.proofs.Outputs.{output_nan, output_digits}
use Rattle.decimal.specs.Lines.{bytes}
use Rattle.listing.proofs.texts.with_output.Goals as goal

pub returns-then-x : goal.returns-then-x
unfolding bytes
returns-then-x c = simp (c.with.ensures, c.with-spaced.ensures, ← (output_nan c.args.x c.if-x.true))

pub returns : goal.returns
returns c = simp (c.with-2.ensures, c.hex-digits.ensures, c.to_bits.ensures, c.with-spaced.ensures, ← (output_digits c.args.x c.if-x.false))
