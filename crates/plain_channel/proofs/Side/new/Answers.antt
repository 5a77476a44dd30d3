-- `Side::new` meets its contract. Assumes nothing.
use Rattle.plain_channel.specs.Sides.{cold_side}
use Rattle.plain_channel.proofs.Side.new.Goals as goal

pub returns : goal.returns
unfolding cold_side
returns c = simp (c.cold-hot.ensures, c.new.ensures)
