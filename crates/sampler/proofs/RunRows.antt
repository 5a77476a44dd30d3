-- What the number of a run of frames says, and what its frames that are done ask. Assumes nothing.
use mathlib.Core.Path.{◌≡◌, refl, sym, ap, ◌∙◌}
use mathlib.Core.Bool.{Bool, true, false, not, ◌||◌, cond, true≢false}
use Prim.Native.Nat.{ℕ, ◌/◌, ◌%◌, min, zero-le}
use native.Mathlib.Nat.{le_trans, le_of_eq, mul-le-mul_right, zero-mul, div-mul-le_self, min-le_left}
use native.Mathlib.Omega.{arith}
use borrow.Author.Tests.{eqb-true}
use lib.Dec.{eqb, ltb}
use Rattle.std.specs.Prelude.{Result, Ok}
use Rattle.refusals.specs.declared.Refusal.{Refusal}
use Rattle.refusals.specs.declared.Refusal.TheVariants.{BeyondLimits, ClockEnd, Broken, BadRun}
use Rattle.refusals.specs.Refusals.{row}
use Rattle.common_types.specs.declared.Params.{Params}
use Rattle.common_types.specs.Settings.{beyond_limits}
use Rattle.sampler.specs.Refusals.{good_with, frames_left, run_asked_of, run_judged, begun, done_of, run_done}
use Rattle.sampler.specs.Samplers.{Turns, run_answer}
use Rattle.sampler.specs.declared.Sampler.{Sampler}
use Rattle.sampler.specs.declared.RunAsked.{RunAsked}
use Rattle.sampler.specs.declared.Ran.{Ran}
use Rattle.sampler.proofs.Rows.{is_true, fitting}

-- rows 9, 10 and 4 don't hold
pub record Begins (s : Sampler) (n : ℕ) (p : Params) (size : ℕ) : Type 0 where
  pub good : good_with s size ≡ true
  pub whole : n % s.count ≡ 0
  pub within : beyond_limits p ≡ false

module _ (s : Sampler) (n : ℕ) (p : Params) (size : ℕ) where
  rows : (a b c d : Bool) → begun (row a Broken (row b BadRun (row c BeyondLimits (row d ClockEnd (Ok tt))))) ≡ true → (a ≡ false) × (b ≡ false) × (c ≡ false)
  rows true b c d h = absurd (true≢false (sym h))
  rows false true c d h = absurd (true≢false (sym h))
  rows false false true d h = absurd (true≢false (sym h))
  rows false false false d h = (refl, refl, refl)

  pub run_begins : begun (run_judged s n p size) ≡ true → Begins s n p size
  unfolding run_judged
  run_begins h =
      let r = rows (not (good_with s size)) (not (eqb (n % s.count) 0)) (beyond_limits p) (ltb (frames_left s) (n / s.count)) h in
      record { good = is_true (good_with s size) r.0; whole = eqb-true (n % s.count) 0 (is_true (eqb (n % s.count) 0) r.1); within = r.2 }

  -- what is asked of the record gives its answer
  pub run_asked : (ran : Ran) (a : RunAsked) → ran ≡ run_done a n p → a ≡ run_asked_of s size → ran ≡ run_answer s n p size
  unfolding run_done run_answer done_of run_judged
  run_asked ran a e f = e ∙ ap (λ (b : RunAsked). run_done b n p) f

  pub done_turns : Turns s (done_of s n p size) n size
  unfolding done_of
  done_turns = go (begun (run_judged s n p size)) refl
    where
      go : (b : Bool) → begun (run_judged s n p size) ≡ b → Turns s (cond b (min (n / s.count) (frames_left s)) 0) n size
      go true e =
          let f = fitting s size (run_begins e).good in
          record {
            steps = λ z. record { below = f.few; parts = f.fits };
            entries = le_trans (mul-le-mul_right s.count (min-le_left (n / s.count) (frames_left s))) (div-mul-le_self n s.count);
          }
      go false e = record { steps = λ z. absurd (omega arith); entries = le_trans (le_of_eq (zero-mul s.count)) zero-le }
