-- What a run of frames answers and leaves: all as it was with 9, 10 and 4, every frame with 0, and with 6 what the run of the frames before the clock's end leaves. Assumes nothing.
use mathlib.Core.Path.{◌≡◌, refl, sym, ap, ◌∙◌, subst}
use mathlib.Core.Logic.{◌≢◌}
use mathlib.Core.Bool.{true, false, not, ◌||◌}
use mathlib.Core.List.{List, ◌++◌, append_assoc}
use Prim.Native.Nat.{ℕ, zero, suc, ◌+◌, ◌*◌, ◌/◌, ◌%◌, ◌≤◌, ◌<◌, min}
use native.Mathlib.Nat.{le_of_eq, suc-mul, div-add-mod', mul-div_left, mul-mod_left}
use native.Mathlib.Omega.{arith}
use borrow.Author.Tests.{ltb-false, le-ltb, eq-eqb, ne_eqb}
use lib.Dec.{eqb, ltb}
use lib.ListN.{length, take, drop, length-drop, take-append-drop}
use lib.Seq.{length-take-le, take-take, take-add, drop_at, drop-drop}
use lib.Ieee.{Float}
use Rattle.std.specs.Prelude.{Ok}
use Rattle.refusals.specs.declared.Refusal.TheVariants.{BeyondLimits, ClockEnd, Broken, BadRun}
use Rattle.refusals.specs.Refusals.{code_of}
use Rattle.refusals.proofs.Codes.{passed}
use Rattle.common_types.specs.declared.Params.{Params}
use Rattle.common_types.specs.Settings.{beyond_limits}
use Rattle.sampler.specs.declared.Sampler.{Sampler}
use Rattle.sampler.specs.declared.Ran.{Ran}
use Rattle.sampler.specs.Refusals.{good_with, frames_left, run_judged, run_number, done_of, begun}
use Rattle.sampler.specs.Samplers.{Framed, framed, entries_of, frames_of, ran_of, run_answer}
use Rattle.sampler.proofs.Rows.{fitting}
use Rattle.sampler.proofs.RunRows.{Begins, run_begins, done_turns}
use Rattle.sampler.proofs.Entries.{kept_entries}
use Rattle.promises.specs.Runs.{World, frames_done}
use Rattle.promises.specs.Outcomes.{along, RunOutcome, Allows, world_left_along}
use Rattle.promises.proofs.Turns.{six_works, all_room}

-- ---- the frames in front are the run of them alone
drop-take : (n c : ℕ) (l : List Float) → n ≤ length l → drop n (take (n + c) l) ≡ take c (drop n l)
drop-take n c l h = ap (drop n) (take-add n c l) ∙ drop_at (take n l) (take c (drop n l)) n (length-take-le n l h)

-- what stands behind, put back
abbrev before : Framed → List Float → Framed
before r rest = framed r.sampler (r.frame ++ rest) r.memory

abbrev Front : Params → ℕ → ℕ → Sampler → List Float → List ℕ → Type 0
Front p k n s xs m = frames_of p k (framed s xs m) ≡ before (frames_of p k (framed s (take (k * n) xs) m)) (drop (k * n) xs)

module _ (p : Params) (k n : ℕ) (s : Sampler) (xs : List Float) (m : List ℕ) (e : s.count ≡ n) (h : suc k * n ≤ length xs) where
  long : suc k * n ≡ n + k * n
  long = suc-mul k n ∙ omega arith

  abbrev then : Framed → List Float → Framed
  then f rest = let r = frames_of p k (framed f.sampler rest f.memory) in framed r.sampler (f.frame ++ r.frame) r.memory

  abbrev first : ℕ → List Float → Framed
  first c l = then (entries_of p c 0 (framed s (take c l) m)) (drop c l)

  abbrev g : Framed
  g = entries_of p n 0 (framed s (take n xs) m)

  abbrev r : Framed
  r = frames_of p k (framed g.sampler (take (k * n) (drop n xs)) g.memory)

  next_count : g.sampler.count ≡ n
  next_count = (kept_entries p n 0 (framed s (take n xs) m)).count ∙ e

  next_entries : k * n ≤ length (drop n xs)
  next_entries = omega (arith, long, h, length-drop n xs)

  shorter : frames_of p (suc k) (framed s (take (suc k * n) xs) m) ≡ framed r.sampler (g.frame ++ r.frame) r.memory
  unfolding frames_of
  shorter =
      ap (λ (c : ℕ). first c (take (suc k * n) xs)) e
      ∙ ap (λ (l : List Float). then (entries_of p n 0 (framed s l m)) (drop n (take (suc k * n) xs))) (take-take n (suc k * n) xs (omega (arith, long)))
      ∙ ap (then g) (ap (λ (a : ℕ). drop n (take a xs)) long ∙ drop-take n (k * n) xs (omega (arith, long, h)))

  front_more : Front p k n g.sampler (drop n xs) g.memory → Front p (suc k) n s xs m
  unfolding frames_of
  front_more ih =
      ap (λ (c : ℕ). first c xs) e
      ∙ ap (λ (q : Framed). framed q.sampler (g.frame ++ q.frame) q.memory) ih
      ∙ ap (λ (l : List Float). framed r.sampler l r.memory)
      (ap (λ (l : List Float). g.frame ++ (r.frame ++ l)) (drop-drop (k * n) n xs ∙ ap (λ (a : ℕ). drop a xs) (sym long)) ∙ sym (append_assoc g.frame r.frame (drop (suc k * n) xs)))
      ∙ ap (λ (f : Framed). before f (drop (suc k * n) xs)) (sym shorter)

frames_front : (p : Params) (k n : ℕ) (s : Sampler) (xs : List Float) (m : List ℕ) → s.count ≡ n → k * n ≤ length xs → Front p k n s xs m
unfolding frames_of
frames_front p zero n s xs m e h = ap (λ (l : List Float). framed s l m) (sym (take-append-drop (0 * n) xs))
frames_front p (suc k) n s xs m e h =
    front_more p k n s xs m e h
    (frames_front p k n (g p k n s xs m e h).sampler (drop n xs) (g p k n s xs m e h).memory (next_count p k n s xs m e h) (next_entries p k n s xs m e h))

module _ (w : World) (xs : List Float) (p : Params) (r : RunOutcome) (allowed : Allows (along w xs p) r) where
  number_is : code_of r.answer.ran.done ≡ run_number w.sampler (length xs) p (length w.memory)
  unfolding run_answer
  number_is = ap (λ (a : Ran). code_of a.done) allowed.0

  frames_is : r.answer.ran.frames ≡ frames_done w xs p
  unfolding run_answer
  frames_is = ap (λ (a : Ran). a.frames) allowed.0

  -- what it leaves, where it is known
  left_is : (f : Framed) → ran_of w.sampler xs p w.memory ≡ f → world_left_along r ≡ record { sampler = f.sampler; memory = f.memory }
  left_is f e = λ t. record { sampler = (allowed.1.sampler ∙ ap (λ (g : Framed). g.sampler) e) t; memory = (allowed.1.memory ∙ ap (λ (g : Framed). g.memory) e) t }

  run_is : (f : Framed) → ran_of w.sampler xs p w.memory ≡ f → r.run ≡ f.frame
  run_is f e = allowed.1.frame ∙ ap (λ (g : Framed). g.frame) e

  pub run_held : code_of r.answer.ran.done ≢ 0 → code_of r.answer.ran.done ≢ 6 → (r.answer.ran.frames ≡ 0) × (world_left_along r ≡ w) × (r.run ≡ xs)
  unfolding ran_of frames_of done_of
  run_held a b =
      let z = run_number w.sampler (length xs) p (length w.memory) in
      let n : frames_done w xs p ≡ 0 = nothing (rw (ne_eqb z 0 (λ q. a (number_is ∙ q)), ne_eqb z 6 (λ q. b (number_is ∙ q)))) in
      let e : ran_of w.sampler xs p w.memory ≡ framed w.sampler xs w.memory = ap (λ (k : ℕ). frames_of p k (framed w.sampler xs w.memory)) n in
      (frames_is ∙ n, left_is (framed w.sampler xs w.memory) e, run_is (framed w.sampler xs w.memory) e)
    where
      nothing : begun (run_judged w.sampler (length xs) p (length w.memory)) ≡ false → frames_done w xs p ≡ 0
      nothing e = rw e

  pub run_done : code_of r.answer.ran.done ≡ 0 → r.answer.ran.frames * w.sampler.count ≡ length xs
  unfolding run_judged done_of
  run_done z = ap (λ (k : ℕ). k * w.sampler.count) (frames_is ∙ all) ∙ div_exact
    where
      zero_is : run_number w.sampler (length xs) p (length w.memory) ≡ 0
      zero_is = sym number_is ∙ z

      begins : Begins w.sampler (length xs) p (length w.memory)
      begins = run_begins w.sampler (length xs) p (length w.memory) (ap (λ (n : ℕ). eqb n 0 || eqb n 6) zero_is)

      room : length xs / w.sampler.count ≤ frames_left w.sampler
      room =
          ltb-false (frames_left w.sampler) (length xs / w.sampler.count)
          (passed (ltb (frames_left w.sampler) (length xs / w.sampler.count)) ClockEnd (Ok tt)
          (passed (beyond_limits p) BeyondLimits _ (passed (not (eqb (length xs % w.sampler.count) 0)) BadRun _ (passed (not (good_with w.sampler (length w.memory))) Broken _ zero_is).1).1).1).0

      short : (a b : ℕ) → a ≤ b → min a b ≡ a
      short a b h = omega arith

      all : frames_done w xs p ≡ length xs / w.sampler.count
      all = rw zero_is (short (length xs / w.sampler.count) (frames_left w.sampler) room)

      div_exact : length xs / w.sampler.count * w.sampler.count ≡ length xs
      div_exact = omega (arith, div-add-mod' (length xs) w.sampler.count, begins.whole)

  module _ (six : code_of r.answer.ran.done ≡ 6) where
    six_is : run_number w.sampler (length xs) p (length w.memory) ≡ 6
    six_is = sym number_is ∙ six

    begins : Begins w.sampler (length xs) p (length w.memory)
    begins = run_begins w.sampler (length xs) p (length w.memory) (six_works w xs p six_is)

    some : 0 < w.sampler.count
    some = (fitting w.sampler (length w.memory) begins.good).some

    within : frames_done w xs p * w.sampler.count ≤ length xs
    within = (done_turns w.sampler (length xs) p (length w.memory)).entries

    abbrev fewer : List Float
    fewer = take (frames_done w xs p * w.sampler.count) xs

    fewer_long : length fewer ≡ frames_done w xs p * w.sampler.count
    fewer_long = length-take-le (frames_done w xs p * w.sampler.count) xs within

    asked : length fewer / w.sampler.count ≡ frames_done w xs p
    asked = ap (λ (a : ℕ). a / w.sampler.count) fewer_long ∙ mul-div_left (frames_done w xs p) some

    number_zero : run_number w.sampler (length fewer) p (length w.memory) ≡ 0
    unfolding run_judged
    number_zero =
        let whole : eqb (length fewer % w.sampler.count) 0 ≡ true = eq-eqb (length fewer % w.sampler.count) 0 (ap (λ (a : ℕ). a % w.sampler.count) fewer_long ∙ mul-mod_left (frames_done w xs p) w.sampler.count) in
        let room : ltb (frames_left w.sampler) (length fewer / w.sampler.count) ≡ false = le-ltb (frames_left w.sampler) (length fewer / w.sampler.count) (le_of_eq (asked ∙ all_room w xs p six_is)) in
        rw (begins.good, whole, begins.within, room)

    as_many : done_of w.sampler (length fewer) p (length w.memory) ≡ frames_done w xs p
    unfolding done_of
    as_many = rw number_zero (short (length fewer / w.sampler.count) (frames_left w.sampler) (le_of_eq (asked ∙ all_room w xs p six_is)) ∙ asked)
      where
        short : (a b : ℕ) → a ≤ b → min a b ≡ a
        short a b h = omega arith

    split : ran_of w.sampler xs p w.memory ≡ before (ran_of w.sampler fewer p w.memory) (drop (frames_done w xs p * w.sampler.count) xs)
    unfolding ran_of
    split =
        frames_front p (frames_done w xs p) w.sampler.count w.sampler xs w.memory refl within
        ∙ ap (λ (k : ℕ). before (frames_of p k (framed w.sampler fewer w.memory)) (drop (frames_done w xs p * w.sampler.count) xs)) (sym as_many)

abbrev Ends : (w : World) (xs : List Float) (p : Params) (r : RunOutcome) → ℕ → Type 0
Ends w xs p r done =
    (q : RunOutcome) → Allows (along w (take done xs) p) q
    → (code_of q.answer.ran.done ≡ 0) × (q.answer.ran.frames ≡ r.answer.ran.frames) × (world_left_along r ≡ world_left_along q) × (r.run ≡ q.run ++ drop done xs)

pub run_ends : (w : World) (xs : List Float) (p : Params) (r : RunOutcome) → Allows (along w xs p) r → code_of r.answer.ran.done ≡ 6
    → (done : ℕ) → done ≡ r.answer.ran.frames * w.sampler.count → Ends w xs p r done
run_ends w xs p r h six done is =
    subst (Ends w xs p r) (sym (is ∙ ap (λ (k : ℕ). k * w.sampler.count) (frames_is w xs p r h)))
    (λ q g.
    let l = fewer w xs p r h six in
    let f = ran_of w.sampler l p w.memory in
    let rest = drop (frames_done w xs p * w.sampler.count) xs in (
      number_is w l p q g ∙ number_zero w xs p r h six,
      frames_is w l p q g ∙ as_many w xs p r h six ∙ sym (frames_is w xs p r h),
      left_is w xs p r h (before f rest) (split w xs p r h six) ∙ sym (left_is w l p q g f refl),
      run_is w xs p r h (before f rest) (split w xs p r h six) ∙ ap (λ (k : List Float). k ++ rest) (sym (run_is w l p q g f refl)),
    ))
