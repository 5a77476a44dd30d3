-- `round_trip` meets its contract, by that of `abs`. Assumes nothing.
use lib.Ieee.{of_bits}
use Rattle.clip.specs.Positions.{round_trip_of}
use Rattle.clip.proofs.round_trip.Goals as goal

pub returns : goal.returns
unfolding round_trip_of of_bits
returns c = simp (c.remainder.ensures, c.abs.ensures)
