-- `float_of` meets its contract: a small count is the same number as signed. Assumes nothing.
use mathlib.Core.Path.{sym, ap, subst}
use native.Mathlib.Omega.{arith}
use lib.Dec.{T}
use lib.IntN.{ℤ}
use lib.Ieee.{binary32, of_int, in_float}
use mir.Syntax.{w32}
use mir.ValLaws.{to_z_pos}
use Rattle.binary32.proofs.Halves.{castable}
use Rattle.pours.proofs.float_of.Goals as goal

pub int_to_float-result : goal.int_to_float-result
int_to_float-result c = subst (λ (z : ℤ). T (in_float binary32 z)) (sym (to_z_pos w32 _ (omega (arith, c.requires)))) (castable binary32 _ c.requires)

pub returns : goal.returns
returns c = ap (of_int binary32) (to_z_pos w32 c.args.count (omega (arith, c.requires)))
