-- `bounced` meets its contract, by those of `abs` and `rem_or_less`. Assumes nothing.
use mathlib.Core.Path.{ap, ◌∙◌, subst}
use lib.Dec.{T}
use lib.Ieee.{Float, binary32, mul, rem, of_bits}
use Rattle.binary32.proofs.Truth.{yes}
use Rattle.clip.specs.Positions.{two32, folded_of, round_trip_of, bounced_of}
use Rattle.pours.proofs.bounced.Goals as goal

pub returns-then-y : goal.returns-then-y
unfolding bounced_of round_trip_of of_bits
returns-then-y c h =
    let l = c.args.length in
    c.folded.ensures
    ∙ ap (λ (y : Float). folded_of y l)
    (c.rem_or_less-y.ensures (yes c.if-y.true) ∙ ap (λ (x : Float). rem binary32 x (mul binary32 two32 l)) c.abs.ensures)

pub returns-else-y : goal.returns-else-y
unfolding of_bits
returns-else-y c h = absurd (subst T c.if-y.false h)
