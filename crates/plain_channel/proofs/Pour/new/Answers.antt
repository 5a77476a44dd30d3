-- `Pour::new` meets its contract. Assumes nothing.
use borrow.Author.Rules.{rules}
use lib.Ieee.{of_bits}
use Rattle.plain_channel.specs.Sides.{no_pour}
use Rattle.plain_channel.proofs.Pour.new.Goals as goal

pub returns : goal.returns
unfolding of_bits no_pour
returns c = search rules
