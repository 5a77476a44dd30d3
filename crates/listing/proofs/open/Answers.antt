-- `open` meets its contract. Assumes nothing.
use Rattle.listing.specs.Steps.{opened_of}
use Rattle.listing.proofs.open.Goals as goal

pub returns-in-Some : goal.returns-in-Some
unfolding opened_of
returns-in-Some c = simp (← c.read_header.ensures, c.in-Some.is, c.new.ensures, c.player_for.ensures)

pub returns-in-None : goal.returns-in-None
unfolding opened_of
returns-in-None c = simp (← c.read_header.ensures, c.in-None.is, c.bad_line.ensures, c.player_for-in-None.ensures)
