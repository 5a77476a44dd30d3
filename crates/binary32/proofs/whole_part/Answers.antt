-- `binary32::whole_part` meets its contract: `small_floor` says what its two steps and its test come to. Assumes nothing.
use Rattle.std.proofs.Common.{Bool, cond, sym, ap, ◌∙◌, rules}
use lib.Ieee.{binary32, of_bits, sub}
use Rattle.binary32.proofs.Units.{one}
use Rattle.binary32.proofs.Snap.{snapped}
use Rattle.binary32.proofs.Floors.{small_floor}
use Rattle.binary32.proofs.whole_part.Goals as goal

pub returns-then-x-near : goal.returns-then-x-near
unfolding of_bits
returns-then-x-near c =
    let x = c.args.x in
    sym (ap (λ (b : Bool). cond b (sub binary32 (snapped binary32 x) one) (snapped binary32 x)) c.if-x-near.true) ∙ small_floor x (search rules) c.requires.above_zero c.requires.below_top

pub returns-else-x-near : goal.returns-else-x-near
unfolding of_bits
returns-else-x-near c =
    let x = c.args.x in
    sym (ap (λ (b : Bool). cond b (sub binary32 (snapped binary32 x) one) (snapped binary32 x)) c.if-x-near.false) ∙ small_floor x (search rules) c.requires.above_zero c.requires.below_top
