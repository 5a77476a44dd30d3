-- What is heard of a merged song: `specs/Heard.antt`. Assumes nothing.
use mathlib.Core.Path.{◌≡◌, refl, ap, ◌∙◌, subst}
use mathlib.Core.Bool.{Bool, true, false}
use mathlib.Core.List.{List, [], ◌∷◌}
use Prim.Native.Nat.{ℕ, ◌+◌, ◌-◌, ◌≤◌, ◌<◌}
use native.Mathlib.Omega.{arith}
use lib.Dec.{leb}
use borrow.Author.Tests.{leb-true, leb-false, le-leb, lt-leb}
use Rattle.smf.specs.Promised.{Timed}
use Rattle.song_grammar.specs.Grammar.{File}
use Rattle.song_grammar.specs.First.{Early}
use Rattle.song_grammar.specs.Judged.{Grammatical}
use Rattle.song_grammar.proofs.Judged.{judged}
use Rattle.song_merge.specs.Merges.{sooner, among, merged_of, merged_with, merged_all, Ticked, ticks_of, placed, by_tick, by_track}
use Rattle.song_merge.specs.Heard.{MergedInto, MergedHeard}

-- ---- by ticks since the start
abbrev At : ℕ → Timed → Ticked
At n t = record { tick = n + t.delta; event = t.event }

abbrev Same : List Timed → Type 0
Same xs = (n : ℕ) (ys : List Timed) → ticks_of n (merged_of xs ys) ≡ by_tick (ticks_of n xs) (ticks_of n ys)

-- a wait that was shortened, behind what shortened it
moved : (n d : ℕ) (t : Timed) → d ≤ t.delta → n + d + (t.delta - d) ≡ n + t.delta
moved n d t h = omega arith

among_ticks : (xs : List Timed) → Same xs → (n : ℕ) (x : Timed) (ys : List Timed)
    → ticks_of n (among x (merged_of xs) ys) ≡ placed (At n x) (by_tick (ticks_of (n + x.delta) xs)) (ticks_of n ys)
unfolding among placed ticks_of
among_ticks xs same n x [] = ap (λ (l : List Ticked). At n x ∷ l) (same (n + x.delta) [])
among_ticks xs same n x (y ∷ ys) = go (leb x.delta y.delta) refl (among_ticks xs same (n + y.delta) (sooner y.delta x) ys)
  where
    go : (b : Bool) → leb x.delta y.delta ≡ b
        → ticks_of (n + y.delta) (among (sooner y.delta x) (merged_of xs) ys)
        ≡ placed (At (n + y.delta) (sooner y.delta x)) (by_tick (ticks_of (n + y.delta + (x.delta - y.delta)) xs)) (ticks_of (n + y.delta) ys)
        → ticks_of n (among x (merged_of xs) (y ∷ ys)) ≡ placed (At n x) (by_tick (ticks_of (n + x.delta) xs)) (ticks_of n (y ∷ ys))
    go true e ih =
        let h = leb-true x.delta y.delta e in
        let first : n + x.delta ≤ n + y.delta = omega arith in
        simp (e, le-leb _ _ first)
        (ap (λ (l : List Ticked). At n x ∷ l)
        (same (n + x.delta) (sooner x.delta y ∷ ys)
        ∙ ap (λ (k : ℕ). by_tick (ticks_of (n + x.delta) xs) (record { tick = k; event = y.event } ∷ ticks_of k ys)) (moved n x.delta y h)))
    go false e ih =
        let h = leb-false x.delta y.delta e in
        let later : n + y.delta < n + x.delta = omega arith in
        simp (e, lt-leb _ _ later)
        (ap (λ (l : List Ticked). At n y ∷ l)
        (ih ∙ ap (λ (k : ℕ). placed (record { tick = k; event = x.event }) (by_tick (ticks_of k xs)) (ticks_of (n + y.delta) ys)) (moved n y.delta x (omega arith))))

by_tick_lem : (xs : List Timed) → Same xs
unfolding merged_of by_tick ticks_of
by_tick_lem [] n ys = refl
by_tick_lem (x ∷ xs) n ys = among_ticks xs (by_tick_lem xs) n x ys

by_track_lem : (ts : List Timed) (tss : List (List Timed)) → ticks_of 0 (merged_with ts tss) ≡ by_track (ticks_of 0 ts) tss
unfolding merged_with by_track
by_track_lem ts [] = refl
by_track_lem ts (us ∷ tss) = by_track_lem (merged_of ts us) tss ∙ ap (λ (l : List Ticked). by_track l tss) (by_tick_lem ts 0 us)

ordered : (tss : List (List Timed)) → ticks_of 0 (merged_all tss) ≡ by_track [] tss
unfolding ticks_of
ordered tss = by_track_lem [] tss

-- ---- as it is read
module _ (g : List ℕ) (division : ℕ) (tss : List (List Timed)) (m : MergedInto g division tss) where
  spelt : File g division (merged_all tss)
  spelt = subst (λ (l : List ℕ). File l division (merged_all tss)) m.front (m.answers.merged division tss m.song m.zero).1

  abbrev grammatical : (rate : ℕ) → Early rate division (merged_all tss) → Grammatical rate g
  grammatical rate early = record { division = division; events = merged_all tss; spelt = spelt; early = early }

pub heard : MergedHeard
heard = record {
  good = λ g division tss m rate early. (judged.good rate g m.bytes).1 (grammatical g division tss m rate early);
  listed = λ g division tss m rate early. judged.listed rate g m.bytes (grammatical g division tss m rate early);
  takes = λ g division tss m rate room good early fits. judged.takes g rate room m.bytes good (grammatical g division tss m rate early) fits;
  only_late = λ g division tss m rate why e. judged.only_late rate g m.bytes division (merged_all tss) (spelt g division tss m) why e;
  ordered = ordered;
}
