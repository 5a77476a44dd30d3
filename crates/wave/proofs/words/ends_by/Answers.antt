-- `ends_by` meets its contract. Assumes nothing.
use mathlib.Core.Path.{sym}
use Prim.Native.Nat.{◌+◌, ◌-◌}
use native.Mathlib.Omega.{arith}
use borrow.Author.Tests.{lt-leb}
use Rattle.wave.proofs.Layouts.{same_test}
use Rattle.wave.proofs.words.ends_by.Goals as goal

pub returns-then-limit-start : goal.returns-then-limit-start
returns-then-limit-start c =
    let a = c.args in
    sym (lt-leb (a.start + a.words) a.limit (omega arith))

pub returns : goal.returns
returns c =
    let a = c.args in
    same_test a.words (a.limit - a.start) (a.start + a.words) a.limit (λ h. omega arith) (λ h. omega arith)
