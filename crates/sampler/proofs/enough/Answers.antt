-- `enough` meets its contract: a product is at most a number where a factor is at most the quotient. Assumes nothing.
-- the test for a count that is known
use mathlib.Core.Path.{◌≡◌, sym, ap, ◌∙◌}
use Prim.Native.Nat.{ℕ, ◌*◌}
use native.Mathlib.Nat.{zero-mul, one-mul}
use native.Mathlib.Omega.{arith}
use lib.Dec.{leb, leb-zero}
use Rattle.sampler.proofs.Rows.{quotient_test}
use Rattle.sampler.proofs.enough.Goals as goal

at_count : (count n c size : ℕ) → count ≡ n → leb (count * c) size ≡ leb (n * c) size
at_count count n c size e = ap (λ (k : ℕ). leb (k * c) size) e

pub returns-then-count-eq1 : goal.returns-then-count-eq1
returns-then-count-eq1 c =
    let a = c.args in
    sym (at_count a.count 1 a.capacity a.size c.if-count-eq1.true ∙ ap (λ (k : ℕ). leb k a.size) (one-mul a.capacity))

pub returns-then-count-eq2 : goal.returns-then-count-eq2
returns-then-count-eq2 c =
    let a = c.args in
    quotient_test 2 a.capacity a.size (λ (e : 2 ≡ 0). omega (arith, e)) ∙ sym (at_count a.count 2 a.capacity a.size c.if-count-eq2.true)

pub returns-then-count-eq0 : goal.returns-then-count-eq0
returns-then-count-eq0 c =
    let a = c.args in
    sym (at_count a.count 0 a.capacity a.size c.if-count-eq0.true ∙ ap (λ (k : ℕ). leb k a.size) (zero-mul a.capacity) ∙ leb-zero a.size)

pub returns-else-count-eq0 : goal.returns-else-count-eq0
returns-else-count-eq0 c =
    let a = c.args in
    quotient_test a.count a.capacity a.size c.if-count-eq0.false
