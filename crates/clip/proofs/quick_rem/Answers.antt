-- `quick_rem` meets its contract. Assumes nothing.
use mathlib.Core.Path.{sym}
use lib.Ieee.{binary32, le, neg, of_bits}
use borrow.Author.Rules.{rules}
use Rattle.binary32.proofs.Truth.{yes, no}
use Rattle.binary32.proofs.Remainders.{rem_below}
use Rattle.clip.proofs.Quick.{once_round}
use Rattle.clip.proofs.quick_rem.Goals as goal

pub returns-then-s-length : goal.returns-then-s-length
returns-then-s-length c h =
    let a = c.args in
    sym (rem_below binary32 a.s a.length (search rules) h (yes c.if-s-length.true))

pub returns-then-t-length : goal.returns-then-t-length
returns-then-t-length c h =
    let a = c.args in
    once_round a.s a.length (search rules) (search rules) (no c.if-s-length.false) (yes c.if-t-length.true) h

pub returns-else-t-length : goal.returns-else-t-length
unfolding of_bits le neg
returns-else-t-length c h = absurd h
