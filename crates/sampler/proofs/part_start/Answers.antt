-- `part_start` meets its contract. Assumes nothing.
use mathlib.Core.Path.{◌≡◌, sym, ap, ◌∙◌}
use Prim.Native.Nat.{ℕ, ◌*◌, min}
use native.Mathlib.Nat.{zero-mul, one-mul}
use native.Mathlib.Omega.{arith}
use Rattle.sampler.proofs.part_start.Goals as goal

pub returns-then-j-eq0 : goal.returns-then-j-eq0
returns-then-j-eq0 c = let e : min c.args.j 1 ≡ 0 = omega arith in sym (ap (λ (n : ℕ). n * c.args.capacity) e ∙ zero-mul c.args.capacity)

pub returns-else-j-eq0 : goal.returns-else-j-eq0
returns-else-j-eq0 c = let e : min c.args.j 1 ≡ 1 = omega arith in sym (ap (λ (n : ℕ). n * c.args.capacity) e ∙ one-mul c.args.capacity)
