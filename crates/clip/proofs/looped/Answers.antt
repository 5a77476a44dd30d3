-- `looped` meets its contract, by that of `quick_rem` where it answers, and of `raised`. Assumes nothing.
use lib.Ieee.{of_bits}
use borrow.Author.Rules.{rules}
use Rattle.binary32.proofs.Truth.{yes}
use Rattle.clip.specs.Positions.{looped_of}
use Rattle.clip.proofs.Quick.{looped_ahead}
use Rattle.clip.proofs.looped.Goals as goal

pub returns-then-t : goal.returns-then-t
unfolding of_bits
returns-then-t c =
    let a = c.args in
    looped_ahead a.x a.length _ (yes c.if-t.true) (c.quick_rem-t.ensures (yes c.if-t.true))

pub returns : goal.returns
unfolding looped_of
returns c = simp (c.raised.ensures, c.remainder.ensures)
