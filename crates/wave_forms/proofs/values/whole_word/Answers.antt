-- `values::whole_word` meets its contract: a shifted 1 is half of 2 ^ bits. Assumes nothing.
use mathlib.Core.Path.{◌≡◌, sym, ap, ◌∙◌}
use Prim.Native.Nat.{ℕ, ◌+◌, ◌-◌, ◌*◌, ◌%◌, ◌^◌, ◌≤◌, ◌<◌}
use native.Mathlib.Omega.{arith}
use lib.Pow.{pow-add, pow_mono}
use Rattle.binary32.proofs.Tops.{unit_shifted}
use Rattle.wave_forms.proofs.Doubles.{plus_whole, minus_whole}
use Rattle.wave_forms.proofs.values.whole_word.Goals as goal

record Half (bits : ℕ) : Type 0 where
  half : 1 * 2 ^ (bits - 1) % 2 ^ 64 ≡ 2 ^ (bits - 1)
  twice : 2 * 2 ^ (bits - 1) ≡ 2 ^ bits
  small : 2 ^ bits ≤ 2 ^ 32

halved : (bits : ℕ) → 0 < bits → bits ≤ 32 → Half bits
halved bits some few =
    let one : 1 + (bits - 1) ≡ bits = omega arith in
    record { half = unit_shifted (bits - 1) (omega arith); twice = sym (pow-add 2 1 (bits - 1)) ∙ ap (λ (n : ℕ). 2 ^ n) one; small = pow_mono few }

pub overflow_mul-half : goal.overflow_mul-half
overflow_mul-half c = let h = halved c.args.bits c.requires.0 c.requires.1 in omega arith

pub overflow_sub-half-else-n-half : goal.overflow_sub-half-else-n-half
overflow_sub-half-else-n-half c = let h = halved c.args.bits c.requires.0 c.requires.1 in omega arith

pub returns-then-n-half : goal.returns-then-n-half
returns-then-n-half c =
    let p = c.requires in
    let h = halved c.args.bits p.0 p.1 in
    plus_whole c.args.bits p.0 p.1 c.args.n c.narrowed.result (omega arith) c.narrowed.ensures.value

pub returns-else-n-half : goal.returns-else-n-half
returns-else-n-half c =
    let p = c.requires in
    let h = halved c.args.bits p.0 p.1 in
    minus_whole c.args.bits p.0 p.1 c.args.n _ c.narrowed-else-n-half.result (omega arith) (omega arith) c.narrowed-else-n-half.ensures.value
