-- Where a clip is, and how loud a ramp, by how many samples there were since its last change or start. Assumes nothing.
--     looped_either    the place in a loop, by what remains of the travel's size
--     lower-is         the smaller of a place and the last
--     spot_is          the sample of a place that is told
--     told_next        one more that is told
--     within           a place by what is left of a lap
--     travel_by_lem        the travel at a time
--     offset_by        and the offset
--     level_by         the level at a time
use mathlib.Core.Path.{◌≡◌, refl, sym, ap, ap₂, ◌∙◌, subst}
use mathlib.Core.Logic.{inl, inr}
use Prim.Native.Nat.{ℕ, ◌+◌, ◌-◌, ◌*◌, ◌^◌, ◌≤◌, ◌<◌}
use native.Mathlib.Omega.{arith}
use mathlib.Core.Bool.{Bool, true, false, not, cond}
use mathlib.Core.List.{List}
use lib.Dec.{T, ltb→lt}
use lib.ListN.{length, set}
use lib.IntN.{pos}
use lib.Ieee.{Float, nan, inf, fin, Format, binary32, up, down, of_int, add, sub, mul, rem, neg, lt, le, is_nan}
use lib.Ieee.Bits.{is_true}
use borrow.Author.Tests.{not-true, lt-ltb}
use Rattle.binary32.specs.Leaves.{zero32, one32, as_float, as_whole, min_of, max_of, abs_of}
use Rattle.binary32.proofs.Truth.{yes, yes_or_no, cond_split}
use Rattle.binary32.proofs.Between.{le_not_nan, lt_not_nan, lt→le, lt_le_clash}
use Rattle.binary32.proofs.Quotients.{rem_turned}
use Rattle.volume.specs.declared.Volume.{Volume}
use Rattle.volume.specs.declared.Volume.TheVariants.{Static, Linear}
use Rattle.volume.specs.Levels.{progress_of, level_of}
use Rattle.clip.specs.declared.Clip.{Clip}
use Rattle.clip.specs.declared.Mode.{Mode}
use Rattle.clip.specs.Positions.{two32, elapsed_at, lead_of, travel_at, raised_of, looped_of, mirrored_of, round_trip_of, folded_of, bounced_of, wrapped_of, placed_of, clip_to_data_of}
use Rattle.clip.proofs.Quick.{looped_ahead, lead_added}
use Rattle.pours.specs.declared.Way.{Way}
use Rattle.pours.specs.declared.Way.TheVariants.{Up, Down, Fold}
use Rattle.pours.specs.Steady.{travel_by, spot_of, TravelledPlaces, mode_by, size_by, period_by, place_by, LeftBy, ramp_by}
use Rattle.pours.proofs.Filling.{filled}

pub looped_either : (x length y : Float) → T (le zero32 y) → y ≡ rem binary32 (cond (le zero32 x) x (neg x)) length → cond (le zero32 x) y (raised_of (neg y) length) ≡ looped_of x length
unfolding looped_of
looped_either x length y h = go (le zero32 x)
  where
    go : (b : Bool) → y ≡ rem binary32 (cond b x (neg x)) length → cond b y (raised_of (neg y) length) ≡ looped_of x length
    go true e = looped_ahead x length y h e
    go false e = ap (λ (z : Float). raised_of z length) (rem_turned binary32 x length y e)

-- the smaller of a number and another
pub lower-is : (y top : Float) → T (not (is_nan y)) → cond (lt top y) top y ≡ min_of y top
unfolding min_of
lower-is y top number = sym (ap (λ (n : Bool). cond n top (cond (lt top y) top y)) (not_T_false (is_nan y) number))
  where
    not_T_false : (n : Bool) → T (not n) → n ≡ false
    not_T_false false h = refl
    not_T_false true h = absurd h

-- what a sum that is a number is the sum of
sum_second : (f : Format) (x y : Float) → T (not (is_nan (add f x y))) → T (not (is_nan y))
unfolding add is_nan
sum_second f nan y h = absurd h
sum_second f (inf s) nan h = absurd h
sum_second f (inf s) (inf t) h = tt
sum_second f (inf s) (fin t n d) h = tt
sum_second f (fin s m e) nan h = absurd h
sum_second f (fin s m e) (inf t) h = tt
sum_second f (fin s m e) (fin t n d) h = tt

sum_first : (f : Format) (x y : Float) → T (not (is_nan (add f x y))) → T (not (is_nan x))
unfolding add is_nan
sum_first f nan y h = absurd h
sum_first f (inf s) y h = tt
sum_first f (fin s m e) y h = tt

lower_number : (y top : Float) → T (not (is_nan (cond (lt top y) top y))) → T (not (is_nan y))
lower_number y top = cond_split (λ (z : Float). T (not (is_nan z)) → T (not (is_nan y))) (lt top y) top y (λ below h. (lt_not_nan top y below).1) (λ other h. h)

round_number : (s total : Float) → T (not (is_nan (cond (lt s total) s (sub binary32 s total)))) → T (not (is_nan s))
unfolding sub
round_number s total = cond_split (λ (z : Float). T (not (is_nan z)) → T (not (is_nan s))) (lt s total) s (sub binary32 s total) (λ below h. h) (λ other h. sum_first binary32 s (neg total) h)

-- the sample of a place, where the offset t is told
pub spot_is : (y start length total low t : Float) → low ≡ cond (lt (sub binary32 length one32) y) (sub binary32 length one32) y → t ≡ cond (lt (add binary32 start low) total) (add binary32 start low) (sub binary32 (add binary32 start low) total)
    → (T (le zero32 t) → T (lt t total) → t ≡ rem binary32 (add binary32 start low) total) → T (le zero32 t) → T (lt t total) → T (not (is_nan y)) × (as_whole 64 t ≡ spot_of y start length total)
spot_is y start length total low t low-is t_is once least most =
    let number : T (not (is_nan y)) =
    lower_number y (sub binary32 length one32) (subst (λ (z : Float). T (not (is_nan z))) low-is (sum_second binary32 start low (round_number (add binary32 start low) total (subst (λ (z : Float). T (not (is_nan z))) t_is (le_not_nan zero32 t least).1)))) in
    (number, ap (as_whole 64) (once least most ∙ ap (λ (z : Float). rem binary32 (add binary32 start z) total) (low-is ∙ lower-is y (sub binary32 length one32) number)))

-- one more that is told
pub told_next : (c : Clip) (travel : ℕ → Float) (k : ℕ) (values : List ℕ) (x y : Float) (r : ℕ) → k < length values → x ≡ travel k → y ≡ wrapped_of c.mode x c.length
    → r ≡ spot_of y c.start c.length c.data_length → TravelledPlaces c travel k values → TravelledPlaces c travel (k + 1) (set values k r)
unfolding clip_to_data_of placed_of
told_next c travel k values x y r room at wrapped spot =
    let here = spot ∙ ap (λ (z : Float). spot_of z c.start c.length c.data_length) (wrapped ∙ ap (λ (z : Float). wrapped_of c.mode z c.length) at) in
    filled (λ (j : ℕ) (z : ℕ). z ≡ as_whole 64 (clip_to_data_of c (placed_of c.mode (travel j) c.length))) k values r room here

-- ---- within one lap
pub positive : (x : Float) → T (lt zero32 x) → abs_of x ≡ x
unfolding lt
positive nan h = absurd h
positive (inf true) h = absurd h
positive (inf false) h = refl
positive (fin true m e) h = absurd h
positive (fin false m e) h = refl

back : (y : Float) → T (lt zero32 y) → T (lt (neg y) zero32)
unfolding lt neg
back nan h = absurd h
back (inf true) h = absurd h
back (inf false) h = tt
back (fin true m e) h = absurd h
back (fin false m e) h = yes (lt-ltb 0 (m * up e * down (pos 0) + 0 * up (pos 0) * down e) (omega (arith, ltb→lt (0 * up (pos 0) * down e) (m * up e * down (pos 0)) h)))

turns_below : (y : Float) → T (lt zero32 y) → le zero32 (neg y) ≡ false
turns_below y h = elim (yes_or_no (le zero32 (neg y))) [ inl l ↦ absurd (lt_le_clash (neg y) zero32 (back y h) l) | inr l ↦ not-true _ (is_true _ l) ]

lifted : (y : Float) (b : Bool) (m : Float) → T (not (is_nan (cond b y (cond (lt m zero32) zero32 m)))) → cond b y (cond (lt m zero32) zero32 m) ≡ cond b y (max_of m zero32)
unfolding max_of lt is_nan
lifted y true m h = refl
lifted y false nan h = absurd h
lifted y false (inf s) h = refl
lifted y false (fin s n d) h = refl

fold_is : (y length : Float) → T (not (is_nan (place_by Fold y length))) → place_by Fold y length ≡ folded_of y length
fold_is y length = lifted y (lt y length) (mirrored_of y length)

-- the place by what is left of a lap
pub within : (way : Way) (x y length : Float) → T (lt zero32 y) → LeftBy (size_by way x) (period_by way length) y → T (not (is_nan (place_by way y length))) → place_by way y length ≡ wrapped_of (mode_by way) x length
unfolding wrapped_of looped_of bounced_of round_trip_of
within Up x y length some left number = looped_ahead x length y (lt→le zero32 y some) (left some).1
within Down x y length some left number =
    sym (ap (λ (b : Bool). cond b (neg y) (add binary32 (neg y) length)) (turns_below y some)) ∙ ap (λ (z : Float). raised_of z length) (rem_turned binary32 x length y (left some).1)
within Fold x y length some left number =
    fold_is y length number ∙ ap (λ (z : Float). folded_of z length) ((left some).1 ∙ ap (λ (z : Float). rem binary32 z (mul binary32 two32 length)) (sym (positive x (left some).0)))

-- by what the code has for each
pub within_by : (way : Way) (mode : Mode) (x s p y w length : Float) → mode ≡ mode_by way → s ≡ size_by way x → p ≡ period_by way length → w ≡ place_by way y length → LeftBy s p y → T (lt zero32 y) → T (not (is_nan w)) → w ≡ wrapped_of mode x length
within_by way mode x s p y w length mode_is size_is period_is place_is left some number =
    place_is ∙ within way x y length some (λ h. let q = left h in (subst (λ (z : Float). T (lt zero32 z)) size_is q.0, q.1 ∙ ap₂ (rem binary32) size_is period_is)) (subst (λ (z : Float). T (not (is_nan z))) place_is number)
    ∙ sym (ap (λ (m : Mode). wrapped_of m x length) mode_is)

pub lead_few : (speed : Float) {lead : ℕ} → lead ≡ cond (lt speed zero32) 1 0 → lead ≤ 1
lead_few speed {lead} = go (lt speed zero32)
  where
    go : (b : Bool) → lead ≡ cond b 1 0 → lead ≤ 1
    go true e = omega (arith, e)
    go false e = omega (arith, e)

-- the lead as a float
pub lead_float : (speed : Float) {lead : ℕ} → lead ≡ cond (lt speed zero32) 1 0 → as_float lead ≡ lead_of speed
unfolding lead_of of_int
lead_float speed {lead} = go (lt speed zero32)
  where
    go : (b : Bool) → lead ≡ cond b 1 0 → as_float lead ≡ cond b one32 zero32
    go true e = ap as_float e
    go false e = ap as_float e

pub travel_by_lem : (c : Clip) (now lead k : ℕ) → lead ≡ cond (lt c.speed zero32) 1 0 → c.since ≤ now → elapsed_at c now + k < 2 ^ 24 → travel_by c.shift c.speed (elapsed_at c now + lead + k) ≡ travel_at c (now + k)
unfolding travel_at
travel_by_lem c now lead k lead_is begun early = ap (λ (x : Float). add binary32 c.shift (mul binary32 x c.speed)) (way (lt c.speed zero32) refl)
  where
    at : elapsed_at c now + k ≡ elapsed_at c (now + k)
    at = omega (arith, begun)

    way : (b : Bool) → lt c.speed zero32 ≡ b → as_float (elapsed_at c now + lead + k) ≡ add binary32 (as_float (elapsed_at c (now + k))) (lead_of c.speed)
    way b e =
        ap as_float (count b (lead_is ∙ ap (λ (z : Bool). cond z 1 0) e))
        ∙ sym (lead_added (elapsed_at c (now + k)) c.speed b e (omega (arith, early, begun)))
      where
        count : (b : Bool) → lead ≡ cond b 1 0 → elapsed_at c now + lead + k ≡ cond b (elapsed_at c (now + k) + 1) (elapsed_at c (now + k))
        count true l = omega (arith, l, begun)
        count false l = omega (arith, l, begun)

-- the offset at a time
pub offset_by : (c : Clip) (now lead k : ℕ) → lead ≡ cond (lt c.speed zero32) 1 0 → c.since ≤ now → elapsed_at c now + k < 2 ^ 24
    → clip_to_data_of c (placed_of c.mode (travel_by c.shift c.speed (elapsed_at c now + lead + k)) c.length) ≡ clip_to_data_of c (placed_of c.mode (travel_at c (now + k)) c.length)
offset_by c now lead k lead_is begun early = ap (λ (x : Float). clip_to_data_of c (placed_of c.mode x c.length)) (travel_by_lem c now lead k lead_is begun early)

-- ---- levels
pub steady_by : (v : Volume) (x : Float) (now : ℕ) → v ≡ Static x → x ≡ level_of v now
unfolding level_of
steady_by v x now is = sym (ap (λ (z : Volume). level_of z now) is)

pub level_by : (v : Volume) (a b : ℕ) (x y over : Float) (now k : ℕ) → v ≡ Linear a b x y → over ≡ as_float (b - a) → a ≤ now → ramp_by over x (sub binary32 y x) (now - a + k) ≡ level_of v (now + k)
unfolding level_of progress_of
level_by v a b x y over now k is over-is begun =
    ap₂ (λ (d : Float) (e : ℕ). ramp_by d x (sub binary32 y x) e) over-is (omega (arith, begun))
    ∙ sym (ap (λ (z : Volume). level_of z (now + k)) is)
