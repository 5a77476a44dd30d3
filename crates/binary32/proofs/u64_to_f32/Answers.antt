-- `binary32::u64_to_f32` meets its contract: above 2 ^ 24 by the law `top_float`, at 64 digits. Assumes nothing.
-- above 2 ^ 24 at most 39 zeros stand before the top digit
use Rattle.std.proofs.Common.{ℕ, ◌+◌, ◌^◌, ◌<◌, ◌∙◌, arith, rules}
use lib.Count.{count_leading_zeros}
use lib.Ieee.{binary32}
use Rattle.binary32.proofs.Halves.{castable}
use Rattle.binary32.proofs.Tops.{below_top, zeros_few, top_float}
use Rattle.binary32.proofs.u64_to_f32.Goals as goal

few : (n : ℕ) → n < 2 ^ 64 → 2 ^ 24 < n → count_leading_zeros 64 n + 24 < 64
few n W h = zeros_few 64 n (omega arith) W 24 (omega arith)

pub overflow_sub-n : goal.overflow_sub-n
overflow_sub-n c = omega (arith, few c.args.n (search rules) c.if-n-gt16777216.true)

pub rounded-requires : goal.rounded-requires
rounded-requires c =
    let n = c.args.n in
    let W : n < 2 ^ 64 = search rules in
    let z = few n W c.if-n-gt16777216.true in
    (omega arith, omega arith, below_top 64 n (omega arith) W _ (omega arith))

pub int_to_float-result : goal.int_to_float-result
int_to_float-result c = castable binary32 c.args.n (search rules)

pub returns-then-n-gt16777216 : goal.returns-then-n-gt16777216
returns-then-n-gt16777216 c =
    let n = c.args.n in
    let z = few n (search rules) c.if-n-gt16777216.true in
    c.rounded.ensures ∙ top_float binary32 64 n _ (omega arith) (search rules) (omega arith)
