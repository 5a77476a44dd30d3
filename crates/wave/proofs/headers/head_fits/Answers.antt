-- `head_fits` meets its contract. Assumes nothing.
use Prim.Native.Nat.{ℕ, ◌*◌, ◌^◌, ◌≤◌, ◌<◌}
use native.Mathlib.Nat.{mul-le-mul}
use native.Mathlib.Omega.{arith}
use Rattle.wave.proofs.Calls.{head_many, head_few}
use Rattle.wave.proofs.headers.head_fits.Goals as goal

product : (a b : ℕ) → a ≤ 0x3fff → b < 2 ^ 32 → a * b ≤ 0x3fff * 2 ^ 32
product a b h k = mul-le-mul {n₁ = a} {m₁ = b} {n₂ = 0x3fff} {m₂ = 2 ^ 32} h (omega arith)

pub returns-then-channels-gt16383 : goal.returns-then-channels-gt16383
returns-then-channels-gt16383 c = head_many _ _ _ c.if-channels-gt16383.true

pub overflow_mul-result : goal.overflow_mul-result
overflow_mul-result c = let few = product c.args.channels c.args.samples (omega arith) (omega arith) in omega arith

pub overflow_mul-result-2 : goal.overflow_mul-result-2
overflow_mul-result-2 c = let few = product c.args.channels c.args.samples (omega arith) (omega arith) in omega arith

pub overflow_add-result : goal.overflow_add-result
overflow_add-result c = let few = product c.args.channels c.args.samples (omega arith) (omega arith) in omega arith

pub returns : goal.returns
returns c = head_few _ _ _ c.if-channels-gt16383.false
