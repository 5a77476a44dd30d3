-- `with` meets its contract: a store past the end leaves the table. Assumes nothing.
use Rattle.std.proofs.Common.{◌≡◌, length, sym, arith, rules}
use lib.Seq.{set_out}
use Rattle.phrases.proofs.with.Goals as goal

pub returns-else-i-lt-PHRASES : goal.returns-else-i-lt-PHRASES
returns-else-i-lt-PHRASES c =
    let a = c.args in
    let eight : length a.table ≡ 8 = search rules in
    sym (set_out a.table a.k a.p (omega (arith, c.if-i-lt-PHRASES.false)))
