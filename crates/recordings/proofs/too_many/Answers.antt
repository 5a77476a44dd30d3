-- `too_many` meets its contract. Assumes nothing.
use Rattle.channel.specs.Tables.{short_by}
use Rattle.recordings.proofs.too_many.Goals as goal

pub returns : goal.returns
unfolding short_by
returns c =
    simp (c.held_against-two.ensures, c.held_against-one.ensures)
