-- `quick_whole` meets its contract: a cast sees no fraction (`floor_cast`), and no length of 0 leaves a remainder. Assumes nothing.
use mathlib.Core.Path.{ap, sym, ◌∙◌}
use native.Mathlib.Omega.{arith}
use lib.Ieee.{binary32, rem, to_unsigned, of_bits}
use lib.Ieee.Fits.{rem-fits}
use borrow.Author.Rules.{rules}
use Rattle.binary32.proofs.Truth.{yes}
use Rattle.binary32.proofs.Floors.{floor_cast}
use Rattle.clip.proofs.Quick.{divided}
use Rattle.clip.proofs.quick_whole.Goals as goal

pub returns-then-t : goal.returns-then-t
unfolding of_bits
returns-then-t c h =
    let a = c.args in
    let k = yes c.if-t.true in
    let e = c.quick_rem-t.ensures k in (
      divided a.s a.length _ k e,
      c.f32_to_usize.ensures ∙ ap (to_unsigned 64) e ∙ sym (floor_cast 64 (rem binary32 a.s a.length) (rem-fits binary32 a.s a.length (search rules))),
    )

pub returns-else-t : goal.returns-else-t
returns-else-t c h = absurd (omega (arith, h))
