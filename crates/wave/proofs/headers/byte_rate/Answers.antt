-- `byte_rate` meets its contract. Assumes nothing.
use Prim.Native.Nat.{◌*◌, ◌^◌}
use native.Mathlib.Nat.{mul-le-mul}
use native.Mathlib.Omega.{arith}
use Rattle.wave.proofs.headers.byte_rate.Goals as goal

pub overflow_mul-result-2 : goal.overflow_mul-result-2
overflow_mul-result-2 c = let small = mul-le-mul {n₁ = 4 * c.args.channels} {m₁ = c.args.rate} {n₂ = 2 ^ 16} {m₂ = 2 ^ 32} (omega arith) (omega arith) in omega arith
