-- `write_judged` meets its contract: the request's rows in their order. Assumes nothing.
use Rattle.std.proofs.Common.{◌≡◌, ℕ, ◌*◌, ◌^◌, ◌≤◌, Bool, true, not, sym, ap, ◌∙◌, le_trans, le_of_eq, arith, Result, Ok}
use Rattle.refusals.specs.declared.Refusal.{Refusal}
use Rattle.refusals.specs.declared.Refusal.TheVariants.{Broken}
use Rattle.refusals.specs.Refusals.{row}
use Rattle.refusals.proofs.Codes.{open_row}
use Rattle.wave.specs.declared.Layout.{Layout}
use Rattle.sampler.proofs.Rows.{is_true}
use Rattle.questions.specs.declared.Seen.{Seen}
use Rattle.questions.specs.Sights.{good_in}
use Rattle.questions.proofs.Seats.{seated}
use Rattle.recordings.specs.Sights.{layout_seen}
use Rattle.recordings.proofs.Sights.{seen_few}
use Rattle.recordings.proofs.write_judged.Goals as goal

few : (t : Seen) (size : ℕ) → good_in t size ≡ true → (l : Layout) → l ≡ layout_seen t → l.channels * l.samples ≤ 2 ^ 23
few t size good l e = le_trans (le_of_eq (ap (λ (k : Layout). k.channels * k.samples) e)) (seen_few t size good)

good_open : (r : Result (Unit {0}) Refusal) (b g : Bool) → r ≡ Ok tt → r ≡ row (not b) Broken (Ok tt) → b ≡ g → g ≡ true
good_open r b g h e k = sym k ∙ is_true b (open_row (not b) Broken (Ok tt) tt (sym h ∙ e))

pub layout-l-requires : goal.layout-l-requires
layout-l-requires c = (seated _ _ (good_open _ _ _ c.in_ok-when.was c.when.ensures c.good_in.ensures)).sound

pub overflow_mul-bytes : goal.overflow_mul-bytes
overflow_mul-bytes c = omega (arith, few _ _ (good_open _ _ _ c.in_ok-when.was c.when.ensures c.good_in.ensures) _ c.layout-l.ensures)

pub overflow_mul-bytes-2 : goal.overflow_mul-bytes-2
overflow_mul-bytes-2 c = omega (arith, few _ _ (good_open _ _ _ c.in_ok-when.was c.when.ensures c.good_in.ensures) _ c.layout-l.ensures)

pub overflow_add-bytes : goal.overflow_add-bytes
overflow_add-bytes c = omega (arith, few _ _ (good_open _ _ _ c.in_ok-when.was c.when.ensures c.good_in.ensures) _ c.layout-l.ensures)
