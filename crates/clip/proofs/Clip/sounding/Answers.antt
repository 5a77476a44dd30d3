-- `Clip::sounding` meets its contract, by those of `moved_at` and of `Standing::position` and `beside`. Assumes nothing.
use Rattle.clip.specs.Positions.{standing_of, sounding_of}
use Rattle.clip.proofs.Indices.{position_index}
use Rattle.clip.proofs.Standings.{standing_stands}
use Rattle.clip.proofs.Clip.sounding.Goals as goal

pub position-position-requires : goal.position-position-requires
position-position-requires c = standing_stands _ _ _ c.moved_at-moved.ensures

pub beside-requires : goal.beside-requires
beside-requires c = standing_stands _ _ _ c.moved_at-moved.ensures

pub returns : goal.returns
unfolding standing_of sounding_of
returns c = simp (c.beside.ensures, c.position-position.ensures, c.moved_at-moved.ensures, position_index)
