-- `write_decimal` meets its contract: each turn stores the last digit of the rest, and what is left stores the others. Assumes nothing.
use mathlib.Core.Path.{◌≡◌, sym, ap, ◌∙◌}
use mathlib.Core.List.{List}
use Prim.Native.Nat.{ℕ, ◌+◌, ◌-◌, ◌/◌, ◌%◌, ◌≤◌, ◌<◌}
use native.Mathlib.Omega.{arith}
use lib.ListN.{length, set, length-set}
use lib.Seq.{sets}
use Rattle.decimal.specs.Decimal.{digit, decimal}
use Rattle.decimal.proofs.Decimals.{decimal_one, decimal_more, decimal_length, decimal_some}
use Rattle.walks.proofs.Lists.Runs.{run_last}
use Rattle.decimal.proofs.writing.write_decimal.Goals as goal

turn : (l : List ℕ) (at n place b : ℕ) → 10 ≤ n → place ≡ at + length (decimal n) → b ≡ digit (n % 10)
    → sets l at (decimal n) ≡ sets (set l (place - 1) b) at (decimal (n / 10))
turn l at n place b h e is =
    let before : at + length (decimal (n / 10)) ≡ place - 1 = omega (arith, decimal_length n h) in
    ap (sets l at) (decimal_more n h) ∙ run_last l (decimal (n / 10)) at (digit (n % 10)) ∙ rw (before, is)

first : (l : List ℕ) (at n b : ℕ) → n < 10 → b ≡ digit (n % 10) → set l at b ≡ sets l at (decimal n)
first l at n b h is =
    let same : b ≡ digit n = omega arith in
    rw (decimal_one n h, same)

pub overflow_sub-place : goal.overflow_sub-place
overflow_sub-place c = omega (arith, decimal_some c.loop-rest.rest)

pub bounds-text-place : goal.bounds-text-place
bounds-text-place c = omega (arith, decimal_some c.loop-rest.rest)

pub loop-rest-preserved : goal.loop-rest-preserved
loop-rest-preserved c =
    let h = c.loop-rest in
    let more = c.loop-rest-test.true in record {
      reached = omega (arith, decimal_length h.rest more);
      within = omega arith;
      same_length = length-set _ _ _ ∙ h.invariant.same_length;
      is_whole = sym (turn _ _ _ _ _ more h.invariant.reached c.last_digit.ensures) ∙ h.invariant.is_whole;
    }

pub bounds-text-at : goal.bounds-text-at
bounds-text-at c = omega (arith, decimal_some c.loop-rest.rest)

pub returns-clause-text_after : goal.returns-clause-text_after
returns-clause-text_after c = first _ _ _ _ c.loop-rest-test.false c.last_digit-2.ensures ∙ c.loop-rest.invariant.is_whole
