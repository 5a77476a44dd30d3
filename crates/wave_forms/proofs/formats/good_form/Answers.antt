-- `formats::good_form` meets its contract: a product of two numbers of 32 bits has room in 64. Assumes nothing.
use Prim.Native.Nat.{ℕ, ◌-◌, ◌*◌, ◌/◌, ◌^◌, ◌<◌}
use native.Mathlib.Nat.{lt_of_le_of_lt, mul-le-mul}
use native.Mathlib.Omega.{arith}
use Rattle.wave_forms.specs.Reader.{good_form}
use Rattle.wave_forms.proofs.formats.good_form.Goals as goal

product : (a b : ℕ) → a < 2 ^ 32 → b < 2 ^ 32 → a * b < 2 ^ 64
product a b h k = lt_of_le_of_lt (mul-le-mul {n₁ = a} {m₁ = b} {n₂ = 2 ^ 32 - 1} {m₂ = 2 ^ 32 - 1} (omega arith) (omega arith)) (omega arith)

pub overflow_mul-result : goal.overflow_mul-result
overflow_mul-result c = let o = c.args.o in record { fits = product o.channels (o.bits / 8) (omega arith) (omega arith) }

pub returns : goal.returns
unfolding good_form
returns c = simp c.known.ensures
