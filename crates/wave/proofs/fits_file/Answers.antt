-- `fits_file` meets its contract. Assumes nothing.
use mathlib.Core.Path.{sym}
use native.Mathlib.Omega.{arith}
use Rattle.wave.proofs.Layouts.{file_many, file_long, file_fits, count_small}
use Rattle.wave.proofs.fits_file.Goals as goal

pub returns-then-l-gt1073741823 : goal.returns-then-l-gt1073741823
returns-then-l-gt1073741823 c = sym (file_many _ _ c.requires.0 c.if-l-gt1073741823.true)

pub overflow_mul-bytes : goal.overflow_mul-bytes
overflow_mul-bytes c = let small = count_small c.args.l c.requires.1 c.if-l-gt1073741823.false in omega arith

pub overflow_mul-bytes-2 : goal.overflow_mul-bytes-2
overflow_mul-bytes-2 c = let small = count_small c.args.l c.requires.1 c.if-l-gt1073741823.false in omega arith

pub overflow_add-bytes : goal.overflow_add-bytes
overflow_add-bytes c = let small = count_small c.args.l c.requires.1 c.if-l-gt1073741823.false in omega arith

pub returns-then-bytes-ge4294967304 : goal.returns-then-bytes-ge4294967304
returns-then-bytes-ge4294967304 c = sym (file_long _ _ c.if-bytes-ge4294967304.true)

pub returns : goal.returns
returns c = sym (file_fits _ _ c.if-bytes-ge4294967304.false)
