-- A run of frames leaves nothing poured beside either channel, and any other call leaves what was and doesn't look at it.
-- Assumes nothing.
use mathlib.Core.Path.{◌≡◌, refl, sym, ap, ◌∙◌}
use mathlib.Core.Bool.{Bool, true, false, cond}
use mathlib.Core.List.{List, [], ◌∷◌}
use Prim.Native.Nat.{ℕ, zero, suc, ◌+◌, ◌<◌, min}
use native.Mathlib.Omega.{arith}
use lib.Dec.{eqb, ltb}
use lib.ListN.{length, get_or, set}
use lib.Ieee.{Float}
use Rattle.binary32.specs.Leaves.{zero32}
use Rattle.common_types.specs.declared.Params.{Params}
use Rattle.walks.proofs.Tests.{either}
use Rattle.plain_voice.specs.declared.Hot.{Hot}
use Rattle.channel.specs.declared.Channel.{Channel}
use Rattle.plain_channel.specs.declared.Pour.{Pour}
use Rattle.plain_channel.specs.declared.Side.{Side}
use Rattle.plain_channel.specs.Sides.{no_pour, cold_side, with_hots, taken_at, side_played, side_after}
use Rattle.plain_channel.specs.Ahead.{rested_side}
use Rattle.sampler.specs.declared.Sampler.{Sampler}
use Rattle.sampler.specs.Refusals.{channel_at, sample_number, frame_number}
use Rattle.sampler.specs.Samplers.{change_of, part_of, Framed, framed, entry_of}
use Rattle.plain_sampler.specs.declared.Backing.{Backing}
use Rattle.plain_sampler.specs.Backings.{side_at, with_side, taken_on, change_backing, side_stepped, sample_backing, entries_backing, frame_backing, rested_on, rested_backing, run_backing}
use Rattle.promises.specs.Runs.{World, Call, change, sample, frame, read_wave, gather, asks, after, Made, one, frames, made}
use Rattle.plain_promises.specs.Backed.{beside_after, beside_run, beside_made, beside_all, has_run}
use Rattle.plain_promises.proofs.Shapes.{set_at}

-- ---- a side stored where it stood
abbrev changed : (Side → Side) → ℕ → List Side → List Side
changed f j l = set l j (f (get_or l j cold_side))

-- at two places, in either order
in_either_order : (f g : Side → Side) → ((s : Side) → g (f s) ≡ f (g s)) → (i j : ℕ) (l : List Side) → changed g j (changed f i l) ≡ changed f i (changed g j l)
in_either_order f g e i j [] = refl
in_either_order f g e zero zero (s ∷ l) = ap (λ (r : Side). r ∷ l) (e s)
in_either_order f g e zero (suc j) (s ∷ l) = refl
in_either_order f g e (suc i) zero (s ∷ l) = refl
in_either_order f g e (suc i) (suc j) (s ∷ l) = ap (λ (r : List Side). s ∷ r) (in_either_order f g e i j l)

-- what is poured is kept, if what is stored keeps it
keeps_each : (f : Side → Side) → ((s : Side) → (f s).pour ≡ s.pour) → (i j : ℕ) (l : List Side) → (get_or (changed f i l) j cold_side).pour ≡ (get_or l j cold_side).pour
keeps_each f e i j [] = refl
keeps_each f e zero zero (s ∷ l) = e s
keeps_each f e zero (suc j) (s ∷ l) = refl
keeps_each f e (suc i) zero (s ∷ l) = refl
keeps_each f e (suc i) (suc j) (s ∷ l) = keeps_each f e i j l

-- the same stored leaves all
changes_none : (f : Side → Side) (j : ℕ) (l : List Side) → f (get_or l j cold_side) ≡ get_or l j cold_side → changed f j l ≡ l
changes_none f j [] e = refl
changes_none f zero (s ∷ l) e = ap (λ (r : Side). r ∷ l) e
changes_none f (suc j) (s ∷ l) e = ap (λ (r : List Side). s ∷ r) (changes_none f j l e)

-- ---- both sides rested
rests_own : (j : ℕ) (l : List Side) → (get_or (changed rested_side j l) j cold_side).pour ≡ no_pour
unfolding cold_side
rests_own j [] = refl
rests_own zero (s ∷ l) = refl
rests_own (suc j) (s ∷ l) = rests_own j l

none_poured : (k : Backing) (j : ℕ) → j < 2 → (side_at (rested_backing k) j).pour ≡ no_pour
unfolding rested_backing
none_poured k zero h = set_at (λ (s : Side). s.pour ≡ no_pour) (rested_on 0 k).sides 1 0 _ cold_side refl (rests_own 0 k.sides)
none_poured k (suc zero) h = rests_own 1 (rested_on 0 k).sides
none_poured k (suc (suc j)) h = absurd (omega arith)

-- where both rest
at_rest : (k : Backing) → ((j : ℕ) → j < 2 → (side_at k j).pour ≡ no_pour) → rested_backing k ≡ k
unfolding rested_backing
at_rest k e = (λ t. rested_on 1 (still 0 (e 0 (omega arith)) t)) ∙ still 1 (e 1 (omega arith))
  where
    still : (j : ℕ) → (side_at k j).pour ≡ no_pour → rested_on j k ≡ k
    still j h t = record { sides = changes_none rested_side j k.sides (λ i. record { hots = (side_at k j).hots; pour = sym h i }) t }

-- ---- what keeps what is poured, and doesn't look at it
record Apart (f : Backing → Backing) : Type 0 where
  pub keeps : (k : Backing) (j : ℕ) → (side_at (f k) j).pour ≡ (side_at k j).pour
  pub rests : (k : Backing) → f (rested_backing k) ≡ rested_backing (f k)

nothing : Apart (λ k. k)
nothing = record { keeps = λ k j. refl; rests = λ k. refl }

both : {f g : Backing → Backing} → Apart f → Apart g → Apart (λ k. g (f k))
both {f} {g} a b = record {
  keeps = λ k j. b.keeps (f k) j ∙ a.keeps k j;
  rests = λ k. ap g (a.rests k) ∙ b.rests (f k);
}

if_so : {f : Backing → Backing} (b : Bool) → Apart f → Apart (λ k. cond b (f k) k)
if_so true a = a
if_so false a = nothing

one_side : (f : Side → Side) → ((s : Side) → (f s).pour ≡ s.pour) → ((s : Side) → f (rested_side s) ≡ rested_side (f s)) → (j : ℕ) → Apart (λ k. with_side k j (f (side_at k j)))
unfolding rested_backing
one_side f kept rested j = record {
  keeps = λ k i. keeps_each f kept j i k.sides;
  rests = λ k. (λ t. record { sides = in_either_order rested_side f rested 1 j (rested_on 0 k).sides t })
      ∙ (λ t. record { sides = changed rested_side 1 (in_either_order rested_side f rested 0 j k.sides t) });
}

-- ---- calls
taken_kept : (c : Channel) (at : ℕ) (s : Side) → (taken_at c at s).pour ≡ s.pour
unfolding taken_at
taken_kept c at s = either (λ (r : Side). r.pour) (ltb at (min c.count 32)) _ s s.pour refl refl

taken_rested : (c : Channel) (at : ℕ) (s : Side) → taken_at c at (rested_side s) ≡ rested_side (taken_at c at s)
unfolding taken_at
taken_rested c at s = go (ltb at (min c.count 32)) _
  where
    go : (b : Bool) (hs : List Hot) → cond b (with_hots hs (rested_side s)) (rested_side s) ≡ rested_side (cond b (with_hots hs s) s)
    go true hs = refl
    go false hs = refl

taken_apart : (s t : Sampler) (j : ℕ) → Apart (taken_on s t j)
taken_apart s t j = one_side (taken_at c at) (taken_kept c at) (taken_rested c at) j
  where
    c : Channel
    c = channel_at t j

    at : ℕ
    at = (channel_at s j).count

stepped_apart : (s : Sampler) (j : ℕ) (p : Params) (x : Float) (m : List ℕ) → Apart (side_stepped s j p x m)
unfolding side_stepped side_after side_played
stepped_apart s j p x m = one_side (side_after p x (channel_at s j) (part_of s j m)) (λ k. refl) (λ k. refl) j

entries_apart : (p : Params) (n j : ℕ) (f : Framed) → Apart (entries_backing p n j f)
unfolding entries_backing
entries_apart p zero j f = nothing
entries_apart p (suc n) j f = both (stepped_apart f.sampler j p (get_or f.frame j zero32) f.memory) (entries_apart p n (j + 1) (entry_of p j f))

after_apart : (w : World) (c : Call) → Apart (beside_after w c)
unfolding beside_after change_backing sample_backing frame_backing
after_apart w (change d) = both (taken_apart w.sampler (change_of w.sampler d).sampler 0) (taken_apart w.sampler (change_of w.sampler d).sampler 1)
after_apart w (sample j x p) = if_so (eqb (sample_number w.sampler j p (length w.memory)) 0) (stepped_apart w.sampler j p x w.memory)
after_apart w (frame xs p) = if_so (eqb (frame_number w.sampler (length xs) p (length w.memory)) 0) (entries_apart p (length xs) 0 (framed w.sampler xs w.memory))
after_apart w (read_wave f) = nothing
after_apart w gather = nothing
after_apart w (asks q) = nothing

run_apart : (w : World) (cs : List Call) → Apart (beside_run w cs)
unfolding beside_run
run_apart w [] = nothing
run_apart w (c ∷ cs) = both (after_apart w c) (run_apart (after w c) cs)

-- ---- a host's calls
pub run_rests : (w : World) (cs : List Call) (k : Backing) → beside_run w cs (rested_backing k) ≡ rested_backing (beside_run w cs k)
run_rests w cs = (run_apart w cs).rests

-- to rest again changes nothing
pub rests_once : (b : Bool) (k : Backing) → cond b (rested_backing (rested_backing k)) (rested_backing k) ≡ rested_backing k
rests_once true k = at_rest (rested_backing k) (none_poured k)
rests_once false k = refl

pub poured_all : (w : World) (hs : List Made) (k : Backing) (j : ℕ) → j < 2 → (side_at (beside_all w hs k) j).pour ≡ cond (has_run hs) no_pour (side_at k j).pour
unfolding beside_all beside_made run_backing has_run
poured_all w [] k j h = refl
poured_all w (one c ∷ hs) k j h = poured_all (made w (one c)) hs (beside_after w c k) j h ∙ ap (cond (has_run hs) no_pour) ((after_apart w c).keeps k j)
poured_all w (frames xs p ∷ hs) k j h =
    poured_all (made w (frames xs p)) hs (beside_made w (frames xs p) k) j h ∙ either (λ (r : Pour). r) (has_run hs) no_pour _ no_pour refl (none_poured _ j h)
