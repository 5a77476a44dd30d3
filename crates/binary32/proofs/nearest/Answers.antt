-- `binary32::nearest` meets its contract: each arm is a law of `Tops`. Assumes nothing.
-- a unit of 2 or more leaves room for one more
use Rattle.std.proofs.Common.{ℕ, ◌+◌, ◌*◌, ◌/◌, ◌^◌, ◌<◌, ◌≤◌, le_trans, le_of_eq, mul-le-mul_right, mod-lt, mul_comm, div-mul-le_self, arith, rules}
use Rattle.binary32.proofs.Tops.{closest_below, closest_tie, closest_above}
use Rattle.binary32.proofs.nearest.Goals as goal

room : (n u : ℕ) → n < 2 ^ 64 → 1 < u → n / u + 1 < 2 ^ 64
room n u W U =
    let h : 2 * (n / u) ≤ n = le_trans (mul-le-mul_right (n / u) U) (le_trans (le_of_eq (mul_comm u (n / u))) (div-mul-le_self n u)) in
    omega arith

pub overflow_mul-twice : goal.overflow_mul-twice
overflow_mul-twice c =
    let U : 0 < c.args.unit = omega arith in
    omega (arith, mod-lt c.args.n U)

pub overflow_add-result : goal.overflow_add-result
overflow_add-result c = omega (arith, room c.args.n c.args.unit (search rules) (search rules))

pub overflow_add-result-else-twice-unit-2 : goal.overflow_add-result-else-twice-unit-2
overflow_add-result-else-twice-unit-2 c = omega (arith, room c.args.n c.args.unit (search rules) (search rules))

pub returns-then-twice-unit : goal.returns-then-twice-unit
returns-then-twice-unit c = closest_below _ _ c.if-twice-unit.true

pub returns-then-top-eq0 : goal.returns-then-top-eq0
returns-then-top-eq0 c = omega (arith, closest_tie c.args.n c.args.unit c.if-twice-unit-2.true)

pub returns-else-top-eq0 : goal.returns-else-top-eq0
returns-else-top-eq0 c = omega (arith, closest_tie c.args.n c.args.unit c.if-twice-unit-2.true)

pub returns-else-twice-unit-2 : goal.returns-else-twice-unit-2
returns-else-twice-unit-2 c = omega (arith, closest_above c.args.n c.args.unit (omega arith))
