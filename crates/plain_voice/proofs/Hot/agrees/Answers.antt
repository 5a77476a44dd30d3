-- `Hot::agrees` meets its contract: its tests are those of `agreed`. Assumes nothing.
use Rattle.std.proofs.Common.{ℕ, ◌-◌, ◌^◌, ◌<◌, ◌≤◌, mul-le-mul, arith, rules}
use lib.Ieee.{binary32, of_bits}
use Rattle.binary32.proofs.Halves.{castable}
use Rattle.plain_voice.proofs.Hots.{agreed}
use Rattle.plain_voice.proofs.Hot.agrees.Goals as goal

few : (n : ℕ) → n < 2 ^ 32 → n ≤ 2 ^ 32 - 1
few n h = omega (arith, h)

pub overflow_mul-reached : goal.overflow_mul-reached
overflow_mul-reached c = record { fits = omega (arith, mul-le-mul {n₁ = c.args.self.lap} {m₁ = c.args.b.length} {n₂ = 2 ^ 32 - 1} {m₂ = 2 ^ 32 - 1} (few c.args.self.lap (search rules)) (few c.args.b.length (search rules))) }

pub overflow_add-reached : goal.overflow_add-reached
overflow_add-reached c = record { fits = omega (arith, mul-le-mul {n₁ = c.args.self.lap} {m₁ = c.args.b.length} {n₂ = 2 ^ 32 - 1} {m₂ = 2 ^ 32 - 1} (few c.args.self.lap (search rules)) (few c.args.b.length (search rules)), few c.args.self.place (search rules)) }

pub int_to_float-result : goal.int_to_float-result
int_to_float-result c = castable binary32 _ (omega (arith, c.if-self-gt-LONGEST.false))

pub returns : goal.returns
unfolding of_bits
returns c =
    let a = c.args in
    agreed a.self a.c a.t a.b a.speed a.last c.eq.result c.elapsed_at-elapsed.result (search rules) c.elapsed_at-elapsed.ensures c.if-not-same.false c.if-self-gt-LONGEST.false
