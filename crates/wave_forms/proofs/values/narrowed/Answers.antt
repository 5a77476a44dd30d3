-- `values::narrowed` meets its contract: `Narrowing`, of the numbers that the code works with. Assumes nothing.
use mathlib.Core.Path.{◌≡◌, sym, ap, ◌∙◌}
use mathlib.Core.Bool.{false}
use Prim.Native.Nat.{ℕ, ◌*◌, ◌^◌}
use native.Mathlib.Omega.{arith}
use lib.Ieee.{binary32, round, to_bits}
use Rattle.wave_forms.proofs.Narrowing.{zero_bits, zeros_of, digits_few, narrowed_below, narrowed_over}
use borrow.Author.Rules.{rules}
use Rattle.wave_forms.proofs.values.narrowed.Goals as goal

zero_is : (m x : ℕ) → m ≡ 0 → 0 ≡ to_bits binary32 (round binary32 false (m * 2 ^ x) (2 ^ 1074))
zero_is m x e = zero_bits x ∙ ap (λ (n : ℕ). to_bits binary32 (round binary32 false (n * 2 ^ x) (2 ^ 1074))) (sym e)

pub returns-then-m-eq0 : goal.returns-then-m-eq0
returns-then-m-eq0 c = record { value = zero_is _ _ c.if-m-eq0.true; upper_bound = omega arith }

pub overflow_sub-end : goal.overflow_sub-end
overflow_sub-end c = let z = zeros_of c.args.m (omega arith) (search rules) in omega arith

pub overflow_cast-zeros : goal.overflow_cast-zeros
overflow_cast-zeros c = let z = zeros_of c.args.m (omega arith) (search rules) in omega arith

pub overflow_shl-m : goal.overflow_shl-m
overflow_shl-m c = let z = zeros_of c.args.m (omega arith) (search rules) in omega arith

pub overflow_add-pattern : goal.overflow_add-pattern
overflow_add-pattern c = let few = digits_few c.args.m c.args.x _ _ c.if-m-eq0.false (search rules) c.saturating_sub-exponent.ensures c.shifted-digits.ensures in omega arith

pub returns-then-pattern-lt2139095040 : goal.returns-then-pattern-lt2139095040
returns-then-pattern-lt2139095040 c = record { value = narrowed_below c.args.m c.args.x _ _ c.if-m-eq0.false (search rules) c.saturating_sub-exponent.ensures c.shifted-digits.ensures c.if-pattern-lt2139095040.true; upper_bound = omega arith }

pub returns-else-pattern-lt2139095040 : goal.returns-else-pattern-lt2139095040
returns-else-pattern-lt2139095040 c = record { value = narrowed_over c.args.m c.args.x _ _ c.if-m-eq0.false (search rules) c.saturating_sub-exponent.ensures c.shifted-digits.ensures c.if-pattern-lt2139095040.false; upper_bound = omega arith }
