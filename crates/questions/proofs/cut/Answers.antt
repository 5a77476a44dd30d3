-- `cut` meets its contract: a cast sees no fraction. Assumes nothing.
use mathlib.Core.Path.{sym, ap, ◌∙◌}
use lib.Ieee.{Float, binary32, mul}
use lib.Ieee.Fits.{mul-fits}
use Rattle.binary32.specs.Leaves.{as_whole}
use Rattle.binary32.proofs.Floors.{floor_cast}
use Rattle.questions.proofs.cut.Goals as goal

pub returns : goal.returns
returns c = c.f32_to_usize.ensures ∙ ap (λ (x : Float). as_whole 64 (mul binary32 x c.args.step)) c.usize_to_f32.ensures ∙ sym (floor_cast 64 _ (mul-fits binary32 _ _))
