-- `binary32::scaled_root` meets its contract: the law `moved_root`, of the numbers that the code works with. Assumes nothing.
-- what the contract asks of m and drop, and the count of zeros that it leaves
use Rattle.std.proofs.Common.{◌≡◌, ℕ, ◌+◌, ◌-◌, ◌*◌, ◌/◌, ◌%◌, ◌^◌, ◌<◌, ◌≤◌, Bool, not, T, sym, ap, ◌∙◌, subst, le_trans, le_of_eq, lt_of_lt_of_le, lt_of_le_of_lt, mod-eq_of_lt, arith, lit≤}
use lib.Count.{count_leading_zeros}
use lib.Ieee.{binary32, is_nan, of_bits}
use lib.Ieee.Bits.{nan_bits_is}
use Rattle.binary32.specs.Leaves.{isqrt}
use Rattle.binary32.proofs.Rounding.{round_not_nan}
use Rattle.binary32.proofs.RootDigits.{shift_of, zeros_from, zeros_until, moved_until, kept_until, moved_root}
use Rattle.binary32.proofs.scaled_root.Goals as goal

abbrev Asked : ℕ → ℕ → Type 0
Asked m drop = (0 < m) × (m < 2 ^ 24) × (drop < 254)

range : (m drop : ℕ) → Asked m drop → (40 ≤ count_leading_zeros 64 m) × (count_leading_zeros 64 m < 64)
range m drop p = (zeros_from m drop p.0 p.1 p.2, zeros_until m drop p.0 p.1 p.2)

abbrev moved : ℕ → ℕ → ℕ
moved m drop = m * 2 ^ shift_of (count_leading_zeros 64 m) drop

exact : (m drop : ℕ) → Asked m drop → moved m drop % 2 ^ 64 ≡ moved m drop
exact m drop p = mod-eq_of_lt (lt_of_lt_of_le (moved_until m drop p.0 p.1 p.2) (lit≤ tt))

-- what `whole_root` answers
module _ (m drop r : ℕ) (p : Asked m drop) (e : r ≡ isqrt (moved m drop % 2 ^ 64)) where
  answered : r ≡ isqrt (moved m drop)
  answered = e ∙ ap isqrt (exact m drop p)

  kept : (r + 1) / 2 ≤ 2 ^ 24
  kept = le_trans (le_of_eq (ap (λ (z : ℕ). (z + 1) / 2) answered)) (kept_until m drop p.0 p.1 p.2)

pub overflow_sub-least : goal.overflow_sub-least
overflow_sub-least c = omega (arith, range c.args.m c.args.drop c.requires)

pub overflow_add-shift : goal.overflow_add-shift
overflow_add-shift c = omega (arith, range c.args.m c.args.drop c.requires)

pub overflow_add-shift-2 : goal.overflow_add-shift-2
overflow_add-shift-2 c = omega (arith, range c.args.m c.args.drop c.requires)

pub overflow_add-shift-3 : goal.overflow_add-shift-3
overflow_add-shift-3 c = omega (arith, range c.args.m c.args.drop c.requires)

pub overflow_cast-shift : goal.overflow_cast-shift
overflow_cast-shift c = omega (arith, range c.args.m c.args.drop c.requires)

pub overflow_shl-m : goal.overflow_shl-m
overflow_shl-m c = omega (arith, range c.args.m c.args.drop c.requires)

pub whole_root-requires : goal.whole_root-requires
whole_root-requires c =
    let p = c.requires in
    lt_of_le_of_lt (le_of_eq (exact c.args.m c.args.drop p)) (moved_until c.args.m c.args.drop p.0 p.1 p.2)

pub overflow_add-kept : goal.overflow_add-kept
overflow_add-kept c = omega (arith, kept c.args.m c.args.drop c.whole_root.result c.requires c.whole_root.ensures)

pub overflow_sub-result : goal.overflow_sub-result
overflow_sub-result c = omega (arith, range c.args.m c.args.drop c.requires)

pub overflow_cast-result : goal.overflow_cast-result
overflow_cast-result c = omega (arith, kept c.args.m c.args.drop c.whole_root.result c.requires c.whole_root.ensures)

pub overflow_add-result-2 : goal.overflow_add-result-2
overflow_add-result-2 c =
    omega (arith, range c.args.m c.args.drop c.requires, kept c.args.m c.args.drop c.whole_root.result c.requires c.whole_root.ensures)

pub returns : goal.returns
returns c =
    let m = c.args.m in
    let drop = c.args.drop in
    let p = c.requires in
    ap (λ (z : ℕ). of_bits binary32 ((drop + 151 - shift_of (count_leading_zeros 64 m) drop) / 2 * 2 ^ 23 + (z + 1) / 2)) (answered m drop c.whole_root.result p c.whole_root.ensures)
    ∙ moved_root m drop p.0 p.1 p.2

pub float_from_bits-result : goal.float_from_bits-result
float_from_bits-result c = subst (λ (b : Bool). T (not b)) (sym (nan_bits_is binary32 _ ∙ ap is_nan (returns c))) (round_not_nan binary32 _ _ _)
