-- `Standing::next` meets its contract: `placed` and `clip_to_data` are the rules of the index that sounds, and a cast sees no fraction (`floor_cast`). Assumes nothing.
use mathlib.Core.Path.{sym, ap, ◌∙◌}
use lib.Ieee.{to_unsigned}
use Rattle.clip.specs.Positions.{next_at}
use Rattle.binary32.proofs.Floors.{floor_cast}
use Rattle.clip.proofs.Offsets.{data_fits}
use Rattle.clip.proofs.Standing.next.Goals as goal

pub returns : goal.returns
unfolding next_at
returns c =
    c.f32_to_usize.ensures
    ∙ ap (to_unsigned 64) c.clip_to_data.ensures
    ∙ sym (floor_cast 64 _ (data_fits _ _))
    ∙ simp (c.placed-place.ensures, c.ahead-further.ensures, c.travel.ensures)
