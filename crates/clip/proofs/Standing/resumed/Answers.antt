-- `Standing::resumed` meets its contract: no sample has gone since a change at that time. Assumes nothing.
use lib.Ieee.{of_bits}
use Rattle.clip.proofs.Standings.{resumed_stands}
use Rattle.clip.proofs.Standing.resumed.Goals as goal

pub returns : goal.returns
unfolding of_bits
returns c = resumed_stands c.args.self.clip c.args.shift c.args.self.now
