-- `Position::of` meets its contract: a cast sees no fraction (`floor_cast`). Assumes nothing.
use Rattle.clip.specs.Positions.{position_of}
use Rattle.binary32.proofs.Floors.{floor_cast}
use borrow.Author.Rules.{rules}
use Rattle.clip.proofs.Position.of.Goals as goal

pub returns : goal.returns
unfolding position_of
returns c =
    let x = c.args.offset in
    simp (c.floor.ensures, c.f32_to_usize.ensures, floor_cast 64 x (search rules))
