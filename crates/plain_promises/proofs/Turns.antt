-- A run of frames leaves beside the record what its frame calls leave, one after the other, with nothing poured. Assumes nothing.
use borrow.Author.Tests.{eq-eqb}
use mathlib.Core.Path.{◌≡◌, refl, sym, ap, ◌∙◌, subst}
use mathlib.Core.List.{List, [], ◌∷◌, ◌++◌}
use Prim.Native.Nat.{ℕ, zero, suc, ◌+◌, ◌*◌, ◌≤◌}
use native.Mathlib.Nat.{suc-mul}
use native.Mathlib.Omega.{arith}
use lib.ListN.{length, take, drop, length-drop}
use lib.Seq.{length-take-le}
use lib.Ieee.{Float}
use Rattle.refusals.proofs.Codes.{done_at}
use Rattle.walks.specs.Each.{Each}
use Rattle.common_types.specs.declared.InitParams.{InitParams}
use Rattle.common_types.specs.declared.Params.{Params}
use Rattle.sampler.specs.Refusals.{set_up_number}
use Rattle.sampler.specs.Samplers.{Framed, framed, entries_of, framed_of}
use Rattle.sampler.specs.Soundness.{FittingSampler}
use Rattle.sampler.proofs.RunRows.{done_turns}
use Rattle.plain_sampler.specs.declared.Backing.{Backing}
use Rattle.plain_sampler.specs.Backings.{entries_backing, frame_backing, frames_backing, rested_backing, run_backing}
use Rattle.promises.specs.Runs.{World, set_up, Call, frame, code, after, run, Made, one, frames, frames_done, frame_calls, spread, made, makes, spread_all, Accepted, FittingMade, call_judged}
use Rattle.promises.proofs.Calls.{kept}
use Rattle.promises.proofs.Turns.{in_turn}
use Rattle.promises.proofs.Makes.{whole}
use Rattle.plain_promises.specs.Backed.{beside_after, beside_run, beside_made, beside_all, has_run, rested_after}
use Rattle.plain_promises.proofs.Rests.{run_rests, rests_once}

-- ---- an accepted frame of one entry for each channel in use
module _ (w : World) (xs : List Float) (p : Params) (k : Backing) (ok : code w (frame (take w.sampler.count xs) p) ≡ 0) (long : w.sampler.count ≤ length xs) where
  abbrev n : ℕ
  n = w.sampler.count

  abbrev front : Framed
  front = framed w.sampler (take n xs) w.memory

  size : length (take n xs) ≡ n
  size = length-take-le n xs long

  frame_is : framed_of w.sampler (take n xs) p w.memory ≡ entries_of p n 0 front
  unfolding framed_of call_judged
  frame_is = rw (done_at (call_judged w (frame (take n xs) p)) ok) (ap (λ (c : ℕ). entries_of p c 0 front) size)

  beside_is : beside_after w (frame (take n xs) p) k ≡ entries_backing p n 0 front k
  unfolding beside_after frame_backing call_judged
  beside_is = rw (eq-eqb (code w (frame (take n xs) p)) 0 ok) (ap (λ (c : ℕ). entries_backing p c 0 front k) size)

  -- the run goes on behind it
  abbrev u : World
  u = after w (frame (take n xs) p)

  first_frame : (f : ℕ) → frames_backing p (suc f) (framed w.sampler xs w.memory) k ≡ frames_backing p f (framed u.sampler (drop n xs) u.memory) (beside_after w (frame (take n xs) p) k)
  unfolding frames_backing after
  first_frame f = λ t. frames_backing p f (framed (sym frame_is t).sampler (drop n xs) (sym frame_is t).memory) (sym beside_is t)

-- ---- so many of them
frames_beside : (p : Params) (n f : ℕ) (w : World) (xs : List Float) (k : Backing) → w.sampler.count ≡ n → f * n ≤ length xs → Accepted w (frame_calls p n f xs)
    → frames_backing p f (framed w.sampler xs w.memory) k ≡ beside_run w (frame_calls p n f xs) k
unfolding frames_backing frame_calls beside_run Accepted
frames_beside p n zero w xs k e h a = refl
frames_beside p n (suc f) w xs k e h a =
    let u = after w (frame (take n xs) p) in
    let l = beside_after w (frame (take n xs) p) k in
    let long : suc f * n ≡ n + f * n = suc-mul f n ∙ omega arith in
    subst
    (λ (c : ℕ). frames_backing p (suc f) (framed w.sampler xs w.memory) k
    ≡ frames_backing p f (framed (after w (frame (take c xs) p)).sampler (drop c xs) (after w (frame (take c xs) p)).memory) (beside_after w (frame (take c xs) p) k))
    e (first_frame w xs p k (subst (λ (c : ℕ). code w (frame (take c xs) p) ≡ 0) (sym e) a.0) (omega (arith, e, long, h)) f)
    ∙ frames_beside p n f u (drop n xs) l ((kept w (frame (take n xs) p)).count ∙ e) (omega (arith, length-drop n xs, long, h)) a.1

-- ---- a host's calls
run_more : (w : World) (bs cs : List Call) (k : Backing) → beside_run w (bs ++ cs) k ≡ beside_run (run w bs) cs (beside_run w bs k)
unfolding beside_run run
run_more w [] cs k = refl
run_more w (b ∷ bs) cs k = run_more (after w b) bs cs (beside_after w b k)

module _ (w : World) (fits : FittingSampler w.sampler) where
  spread_leaves : (h : Made) → FittingMade h → run w (spread w h) ≡ made w h
  unfolding made spread run FittingMade
  spread_leaves (one c) f = refl
  spread_leaves (frames xs p) f = sym (in_turn w fits xs p f).leaves

  spread_frames : (xs : List Float) (p : Params) → FittingMade (frames xs p) → (k : Backing) → beside_made w (frames xs p) k ≡ rested_backing (beside_run w (spread w (frames xs p)) k)
  unfolding beside_made spread FittingMade run_backing
  spread_frames xs p f k =
      ap rested_backing (frames_beside p w.sampler.count (frames_done w xs p) w xs k refl (done_turns w.sampler (length xs) p (length w.memory)).entries (in_turn w fits xs p f).accepted)

  -- and what follows
  spread_beside : (h : Made) → FittingMade h → (hs : List Made) (k : Backing)
      → rested_after hs (beside_run (made w h) (spread_all (made w h) hs) (beside_made w h k)) ≡ rested_after (h ∷ hs) (beside_run w (spread_all w (h ∷ hs)) k)
  unfolding beside_made made spread spread_all beside_run rested_after has_run
  spread_beside (one c) f hs k = refl
  spread_beside (frames xs p) f hs k =
      let cs = spread_all (made w (frames xs p)) hs in
      let l = beside_run w (spread w (frames xs p)) k in
      let rested : beside_run (made w (frames xs p)) cs (beside_made w (frames xs p) k) ≡ rested_backing (beside_run w (spread w (frames xs p) ++ cs) k) =
      ap (beside_run (made w (frames xs p)) cs) (spread_frames xs p f k)
      ∙ run_rests (made w (frames xs p)) cs l
      ∙ ap rested_backing (ap (λ (u : World). beside_run u cs l) (sym (spread_leaves (frames xs p) f)) ∙ sym (run_more w (spread w (frames xs p)) cs k)) in
      ap (rested_after hs) rested ∙ rests_once (has_run hs) _

-- ---- from set-up on
makes_more : (w : World) (gs : List Made) (h : Made) → makes w (gs ++ (h ∷ [])) ≡ made (makes w gs) h
unfolding makes
makes_more w [] h = refl
makes_more w (g ∷ gs) h = makes_more (made w g) gs h

one_more : {A : Type 0} (P : A → Type 0) (xs : List A) (x : A) → Each P xs → P x → Each P (xs ++ (x ∷ []))
unfolding Each
one_more P [] x f g = (g, tt)
one_more P (y ∷ xs) x f g = (f.0, one_more P xs x f.1 g)

module _ (count : ℕ) (p : InitParams) (m : List ℕ) (ok : set_up_number count (length m) ≡ 0) where
  all_beside : (w : World) (gs : List Made) → Each FittingMade gs → w ≡ makes (set_up count p m) gs → (hs : List Made) → Each FittingMade hs → (k : Backing)
      → beside_all w hs k ≡ rested_after hs (beside_run w (spread_all w hs) k)
  unfolding beside_all spread_all beside_run rested_after has_run Each
  all_beside w gs f e [] g k = refl
  all_beside w gs f e (h ∷ hs) g k =
      let fits : FittingSampler w.sampler = subst (λ (u : World). FittingSampler u.sampler) (sym e) (whole count p m ok gs f).fitting in
      all_beside (made w h) (gs ++ (h ∷ [])) (one_more FittingMade gs h f g.0) (ap (λ (u : World). made u h) e ∙ sym (makes_more (set_up count p m) gs h)) hs g.1 (beside_made w h k)
      ∙ spread_beside w fits h g.0 hs k

  pub beside_in_turn : (hs : List Made) → Each FittingMade hs → (k : Backing) → beside_all (set_up count p m) hs k ≡ rested_after hs (beside_run (set_up count p m) (spread_all (set_up count p m) hs) k)
  unfolding makes Each
  beside_in_turn hs g k = all_beside (set_up count p m) [] tt refl hs g k
