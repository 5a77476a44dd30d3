-- `Standing::cut` meets its contract: of an equal length nothing changes, and the clip goes on from place 0 where the old offset isn't below the new length. Assumes nothing.
use mathlib.Core.Path.{sym, ap, ◌∙◌}
use mathlib.Core.Path.{◌≡◌}
use lib.Ieee.{of_bits}
use Rattle.binary32.specs.Leaves.{zero32}
use Rattle.clip.specs.Positions.{standing_of}
use Rattle.clip.specs.Updates.{at_data_length, resumed, with_data_length}
use Rattle.clip.specs.declared.Clip.{Clip}
use Rattle.clip.proofs.Standings.{standing_is}
use Rattle.clip.proofs.Standing.cut.Goals as goal

pub returns-then-offset-data_length : goal.returns-then-offset-data_length
unfolding with_data_length of_bits
returns-then-offset-data_length c =
    let s = c.args.self in
    let d = at_data_length s.clip c.args.data_length in
    let reset : with_data_length s.clip s.now c.args.data_length ≡ resumed d zero32 s.now =
    simp (c.if-data_length-self.false, ← c.offset.ensures, c.if-offset-data_length.true) in
    c.resumed.ensures ∙ ap (λ (z : Clip). standing_of z s.now) (sym reset)

pub returns : goal.returns
unfolding with_data_length
returns c =
    let s = c.args.self in
    let d = at_data_length s.clip c.args.data_length in
    let kept : with_data_length s.clip s.now c.args.data_length ≡ d =
    simp (c.if-data_length-self.false, ← c.offset.ensures, c.if-offset-data_length.false) in
    standing_is (record { clip = d; now = s.now; elapsed = s.elapsed }) c.requires ∙ ap (λ (z : Clip). standing_of z s.now) (sym kept)
