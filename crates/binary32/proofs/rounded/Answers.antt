-- `binary32::rounded` meets its contract: what `nearest` answers is at most 2 ^ 24, and the law `of_int_scaled` does the rest. Assumes nothing.
-- 2 ^ d as a pattern
use Rattle.std.proofs.Common.{◌≡◌, ℕ, ◌+◌, ◌*◌, ◌%◌, ◌^◌, ◌<◌, false, pos, ap, ◌∙◌, ap₂, le_trans, le_of_eq, mod-eq_of_lt, arith}
use lib.Ieee.{Float, fin, binary32, is_nan, mul, of_int, of_bits}
use lib.Ieee.Bits.{nan_bits_is}
use lib.Ieee.Nearest.{closest}
use Rattle.binary32.proofs.Truth.{no}
use Rattle.binary32.proofs.Halves.{castable, of_int_scaled}
use Rattle.binary32.proofs.Tops.{unit, unit_closest, top-le}
use Rattle.binary32.proofs.Patterns.{power_bits}
use Rattle.binary32.proofs.rounded.Goals as goal

pattern : (d : ℕ) → d < 64 → of_bits binary32 ((d + 127) * 2 ^ 23 % 2 ^ 32) ≡ fin false 1 (pos d)
pattern d h = ap (of_bits binary32) (mod-eq_of_lt (omega arith)) ∙ power_bits binary32 d (omega arith)

pub nearest-requires : goal.nearest-requires
nearest-requires c = unit c.args.drop c.requires.0 c.requires.1

pub int_to_float-result : goal.int_to_float-result
int_to_float-result c =
    let n = c.args.n in
    let d = c.args.drop in
    let p = c.requires in
    castable binary32 _ (le_trans (le_of_eq (unit_closest n d _ p.1 c.nearest.ensures)) (top-le 24 n d p.2))

pub float_from_bits-result : goal.float_from_bits-result
unfolding is_nan
float_from_bits-result c = no (nan_bits_is binary32 _ ∙ ap is_nan (pattern c.args.drop c.requires.1))

pub returns : goal.returns
returns c =
    let n = c.args.n in
    let d = c.args.drop in
    let p = c.requires in
    ap₂ (λ (q : ℕ) (x : Float). mul binary32 (of_int binary32 (pos q)) x) (unit_closest n d _ p.1 c.nearest.ensures) (pattern d p.1)
    ∙ of_int_scaled binary32 (closest n (2 ^ d)) d (top-le 24 n d p.2)
