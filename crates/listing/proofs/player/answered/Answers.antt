-- `answered` meets its contract. Assumes nothing.
use Rattle.listing.specs.Steps.{answer_played}
use Rattle.listing.proofs.player.answered.Goals as goal

pub returns : goal.returns
unfolding answer_played
returns c = simp (c.answer_line.ensures, c.code.ensures)
