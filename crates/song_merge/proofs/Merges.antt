-- Which of two tracks goes on, and what is then left of both. Assumes nothing.
use mathlib.Core.Path.{◌≡◌, refl, ap}
use mathlib.Core.List.{List, [], ◌∷◌}
use Prim.Native.Nat.{ℕ, ◌≤◌, ◌<◌}
use borrow.Author.Tests.{le-leb, lt-leb}
use Rattle.smf.specs.Promised.{Timed}
use Rattle.song_merge.specs.Merges.{sooner, among, merged_of}

-- the first event of a track so many ticks later
abbrev pub later : ℕ → List Timed → List Timed
later ticks [] = []
later ticks (t ∷ ts) = sooner ticks t ∷ ts

pub merged_nil : (ts : List Timed) → merged_of ts [] ≡ ts
unfolding merged_of among
merged_nil [] = refl
merged_nil (t ∷ ts) = ap (λ (l : List Timed). t ∷ l) (merged_nil ts)

-- the first of two goes on where the second is over or no earlier
abbrev pub NoEarlier : Timed → List Timed → Type 0
NoEarlier t [] = Unit {0}
NoEarlier t (u ∷ us) = t.delta ≤ u.delta

pub left_goes : (t : Timed) (ts us : List Timed) → NoEarlier t us → merged_of (t ∷ ts) us ≡ t ∷ merged_of ts (later t.delta us)
unfolding merged_of among
left_goes t ts [] h = refl
left_goes t ts (u ∷ us) h = simp (le-leb _ _ h)

-- the second one where the first is over or later
abbrev pub Later : Timed → List Timed → Type 0
Later u [] = Unit {0}
Later u (t ∷ ts) = u.delta < t.delta

pub right_goes : (u : Timed) (us ts : List Timed) → Later u ts → merged_of ts (u ∷ us) ≡ u ∷ merged_of (later u.delta ts) us
unfolding merged_of among
right_goes u us [] h = refl
right_goes u us (t ∷ ts) h = simp (lt-leb _ _ h)
