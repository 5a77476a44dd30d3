-- A host's calls, runs of frames among them, are the calls that they are spread into: so what holds of runs of calls holds of them. Assumes nothing.
use mathlib.Core.Path.{◌≡◌, refl, sym, ap, ◌∙◌, subst}
use mathlib.Core.List.{List, [], ◌∷◌, ◌++◌}
use Prim.Native.Nat.{ℕ, zero, suc, ◌<◌}
use native.Mathlib.Omega.{arith}
use lib.ListN.{length, drop}
use lib.Ieee.{Float}
use Rattle.walks.specs.Each.{Each}
use Rattle.common_types.specs.declared.InitParams.{InitParams}
use Rattle.common_types.specs.declared.Params.{Params}
use Rattle.voice.specs.Soundness.{FittingParams}
use Rattle.sampler.specs.Refusals.{capacity_of, set_up_number}
use Rattle.sampler.specs.Soundness.{SoundSampler}
use Rattle.sampler.proofs.Kept.{set_up_sound, change_kept, gather_kept, sample_kept, frame_kept}
use Rattle.channel.specs.declared.Change.TheVariants.{Head}
use Rattle.channel.specs.declared.HeadChange.TheVariants.{Load}
use Rattle.channel.specs.Soundness.{FittingChange}
use Rattle.wave.specs.Reader.{file_judged}
use Rattle.recordings.specs.Waves.{held_in}
use Rattle.recordings.proofs.Numbers.{read_sampler}
use Rattle.promises.specs.Runs.{World, set_up, Call, change, sample, frame, read_wave, gather, asks, after, run, FittingCall, Made, one, frames, frames_done, frame_calls, spread, made, makes, spread_all, FittingMade}
use Rattle.promises.specs.Demands.{NoPanic, Demand3, TruePositions, OldRemoval, Whole}
use Rattle.promises.proofs.Calls.{count_kept, capacity_kept, standing_new}
use Rattle.promises.proofs.Demand3.{standing_demand3}
use Rattle.promises.proofs.Tidying.{standing_old}
use Rattle.promises.proofs.TruePositions.{standing_true}
use Rattle.promises.proofs.Turns.{in_turn, kept_makes, standing_makes}
use Rattle.promises.proofs.Whole as calls

-- ---- runs
pub run_more : (w : World) (bs cs : List Call) → run w (bs ++ cs) ≡ run (run w bs) cs
unfolding run
run_more w [] cs = refl
run_more w (b ∷ bs) cs = run_more (after w b) bs cs

sound_after : (w : World) (c : Call) → FittingCall c → SoundSampler w.sampler → SoundSampler (after w c).sampler
unfolding after FittingCall FittingChange
sound_after w (change d) f h = change_kept w.sampler h d f
sound_after w (sample j x p) f h = sample_kept w.sampler h j x p w.memory f
sound_after w (frame xs p) f h = frame_kept w.sampler h xs p w.memory f
sound_after w (read_wave g) f h = read_sampler w.sampler g w.memory SoundSampler h (λ z. change_kept w.sampler h (Head (Load (held_in (file_judged g)).samples)) tt)
sound_after w gather f h = gather_kept w.sampler h w.memory
sound_after w (asks q) f h = h

sound_run : (w : World) (cs : List Call) → Each FittingCall cs → SoundSampler w.sampler → SoundSampler (run w cs).sampler
unfolding run Each
sound_run w [] f h = h
sound_run w (c ∷ cs) f h = sound_run (after w c) cs f.1 (sound_after w c f.0 h)

-- ---- what a host's call is spread into fits, and leaves what it leaves
pub both_fit : (bs cs : List Call) → Each FittingCall bs → Each FittingCall cs → Each FittingCall (bs ++ cs)
unfolding Each
both_fit [] cs f g = g
both_fit (b ∷ bs) cs f g = (f.0, both_fit bs cs f.1 g)

frames_fit : (p : Params) → FittingParams p → (n k : ℕ) (xs : List Float) → Each FittingCall (frame_calls p n k xs)
unfolding frame_calls Each FittingCall
frames_fit p f n zero xs = tt
frames_fit p f n (suc k) xs = (f, frames_fit p f n k (drop n xs))

spread_fits : (w : World) (h : Made) → FittingMade h → Each FittingCall (spread w h)
unfolding spread FittingMade Each
spread_fits w (one c) f = (f, tt)
spread_fits w (frames xs p) f = frames_fit p f w.sampler.count (frames_done w xs p) xs

made_run : (w : World) → SoundSampler w.sampler → (h : Made) → FittingMade h → made w h ≡ run w (spread w h)
unfolding made spread run FittingMade
made_run w s (one c) f = refl
made_run w s (frames xs p) f = (in_turn w s.fitting xs p f).leaves

sound_made : (w : World) → SoundSampler w.sampler → (h : Made) → FittingMade h → SoundSampler (made w h).sampler
sound_made w s h f = subst (λ (u : World). SoundSampler u.sampler) (sym (made_run w s h f)) (sound_run w (spread w h) (spread_fits w h f) s)

sound_makes : (w : World) (hs : List Made) → Each FittingMade hs → SoundSampler w.sampler → SoundSampler (makes w hs).sampler
unfolding makes Each
sound_makes w [] f s = s
sound_makes w (h ∷ hs) f s = sound_makes (made w h) hs f.1 (sound_made w s h f.0)

all_fit : (w : World) (hs : List Made) → Each FittingMade hs → Each FittingCall (spread_all w hs)
unfolding spread_all Each
all_fit w [] f = tt
all_fit w (h ∷ hs) f = both_fit (spread w h) (spread_all (made w h) hs) (spread_fits w h f.0) (all_fit (made w h) hs f.1)

makes_run : (w : World) → SoundSampler w.sampler → (hs : List Made) → Each FittingMade hs → makes w hs ≡ run w (spread_all w hs)
unfolding makes spread_all run Each
makes_run w s [] f = refl
makes_run w s (h ∷ hs) f =
    makes_run (made w h) (sound_made w s h f.0) hs f.1
    ∙ ap (λ (u : World). run u (spread_all (made w h) hs)) (made_run w s h f.0)
    ∙ sym (run_more w (spread w h) (spread_all (made w h) hs))

-- ---- from set-up on
module _ (count : ℕ) (q : InitParams) (m : List ℕ) (ok : set_up_number count (length m) ≡ 0) where
  sound_new : SoundSampler (set_up count q m).sampler
  unfolding set_up
  sound_new = set_up_sound count q (length m) ok

  pub spreads : (hs ks : List Made) → Each FittingMade hs → Each FittingMade ks
      → makes (makes (set_up count q m) hs) ks ≡ run (makes (set_up count q m) hs) (spread_all (makes (set_up count q m) hs) ks)
  spreads hs ks f g = makes_run (makes (set_up count q m) hs) (sound_makes (set_up count q m) hs f sound_new) ks g

  pub no_panic : (hs : List Made) → Each FittingMade hs → NoPanic (makes (set_up count q m) hs)
  no_panic hs f =
      subst NoPanic (sym (makes_run (set_up count q m) sound_new hs f)) (calls.no_panic count q m ok (spread_all (set_up count q m) hs) (all_fit (set_up count q m) hs f))

  pub whole : (hs : List Made) → Each FittingMade hs → Whole (makes (set_up count q m) hs)
  whole hs f =
      subst Whole (sym (makes_run (set_up count q m) sound_new hs f)) (calls.whole count q m ok (spread_all (set_up count q m) hs) (all_fit (set_up count q m) hs f))

  pub count_makes : (hs : List Made) → (makes (set_up count q m) hs).sampler.count ≡ count
  unfolding run
  count_makes hs = (kept_makes (set_up count q m) hs).count ∙ count_kept count q m ok []

  pub capacity_makes : (hs : List Made) → (makes (set_up count q m) hs).sampler.capacity ≡ capacity_of count (length m)
  unfolding run
  capacity_makes hs = (kept_makes (set_up count q m) hs).capacity ∙ capacity_kept count q m ok []

  pub third : (hs : List Made) (j : ℕ) → j < count → Demand3 (makes (set_up count q m) hs) j
  third hs j k = standing_demand3 (makes (set_up count q m) hs) (standing_makes (set_up count q m) hs (standing_new count q m)) j (omega (arith, count_makes hs))

  pub true_positions : (hs : List Made) (j : ℕ) → j < count → TruePositions (makes (set_up count q m) hs) j
  true_positions hs j k = standing_true (makes (set_up count q m) hs) (standing_makes (set_up count q m) hs (standing_new count q m)) j (omega (arith, count_makes hs))

  pub old_removal : (hs : List Made) (j : ℕ) → j < count → OldRemoval (makes (set_up count q m) hs) j
  old_removal hs j k = standing_old (makes (set_up count q m) hs) (standing_makes (set_up count q m) hs (standing_new count q m)) j (omega (arith, count_makes hs))
