-- `once_round` meets its contract. Assumes nothing.
use mathlib.Core.Path.{sym}
use lib.Ieee.{binary32}
use borrow.Author.Rules.{rules}
use Rattle.binary32.proofs.Truth.{no}
use Rattle.binary32.proofs.Remainders.{rem_below}
use Rattle.clip.proofs.Quick.{once_round}
use Rattle.pours.proofs.once_round.Goals as goal

pub returns-then-s-total : goal.returns-then-s-total
returns-then-s-total c =
    let a = c.args in
    (simp c.if-s-total.true, λ least most. sym (rem_below binary32 a.s a.total (search rules) least most))

pub returns-else-s-total : goal.returns-else-s-total
returns-else-s-total c =
    let a = c.args in
    (simp c.if-s-total.false, λ least most. once_round a.s a.total (search rules) (search rules) (no c.if-s-total.false) most least)
