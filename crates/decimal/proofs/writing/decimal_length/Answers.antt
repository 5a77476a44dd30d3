-- `decimal_length` meets its contract: 0 has a digit too, as 1 has. Assumes nothing.
use mathlib.Core.Path.{◌≡◌, sym, ap, ◌∙◌}
use Prim.Native.Nat.{ℕ, zero, suc, ◌+◌, ◌*◌, ◌^◌, ◌≤◌, ◌<◌, max}
use native.Mathlib.Omega.{arith}
use lib.ListN.{length}
use Rattle.decimal.specs.Decimal.{decimal}
use Rattle.decimal.proofs.Decimals.{decimal_one, decimal_sized}
use Rattle.decimal.proofs.writing.decimal_length.Goals as goal

long : (n m k : ℕ) → m ≡ max n 1 → 10 ^ k ≤ m → m < 10 * 10 ^ k → k + 1 ≡ length (decimal n)
long zero m k e low high = sym (decimal_sized k m low high) ∙ ap (λ (i : ℕ). length (decimal i)) e ∙ ap length (decimal_one 1 (omega arith)) ∙ sym (ap length (decimal_one 0 (omega arith)))
long (suc n) m k e low high = let same : suc n ≡ m = omega arith in rw same (sym (decimal_sized k m low high))

pub returns : goal.returns
returns c = long c.args.n _ _ c.max.ensures c.ilog10.ensures.power_le c.ilog10.ensures.next_power_gt
