-- `lasts` meets its contract: where the voice plays on, by its last sum (`plays_on`), else by that of `ends`. Assumes nothing.
use mathlib.Core.Path.{refl, sym, ap, ◌∙◌}
use lib.Ieee.{Float, lt, le, of_bits}
use lib.Ieee.Fits.{and_l, and_r}
use borrow.Author.Tests.{not-true}
use borrow.Author.Rules.{rules}
use Rattle.binary32.specs.Leaves.{zero32}
use Rattle.binary32.proofs.Truth.{yes}
use Rattle.pours.specs.Steady.{pace_of}
use Rattle.pours.proofs.Plays.{plays_on}
use Rattle.pours.proofs.lasts.Goals as goal

pub returns-then-v-speed : goal.returns-then-v-speed
unfolding of_bits
returns-then-v-speed c told k h =
    let a = c.args in
    let by : Float = pace_of a.t a.v in
    let on = yes c.if-v-speed.true in
    rw c.if-t-v.true
    (plays_on a.v.played by (search rules) (search rules) (and_l (lt zero32 a.v.played) (lt zero32 by) on) (and_r (lt zero32 a.v.played) (lt zero32 by) on) a.t.span.whole_length a.n
    (ap (le a.t.span.whole_length) (sym c.requires.1) ∙ not-true _ told) k h)

pub returns-then-t-v : goal.returns-then-t-v
returns-then-t-v c told k h =
    rw c.if-t-v.true (c.ends.ensures (not-true c.ends.result told) k h)

pub returns : goal.returns
returns c told k h = rw c.if-t-v.false refl
