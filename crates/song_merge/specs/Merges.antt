-- The events of several tracks in one, by tick and then by track. An event has the ticks since the one before it, so
-- what is taken first shortens the wait of the other track's next. Definitions only.
use Rattle.std.specs.Prelude.{cond, List, [], ◌∷◌, ℕ, ◌+◌, ◌-◌, leb}
use Rattle.smf.specs.Promised.{Timed}
use Rattle.smf.specs.declared.events.Event.{Event}

-- so many ticks later
abbrev pub sooner : ℕ → Timed → Timed
sooner ticks t = record { delta = t.delta - ticks; event = t.event }

-- one event, and those behind it in its track, among those of another: of two at one tick it is the first
unfoldable pub among : Timed → (List Timed → List Timed) → List Timed → List Timed
among t rest [] = t ∷ rest []
among t rest (u ∷ us) =
    cond (leb t.delta u.delta) (t ∷ rest (sooner t.delta u ∷ us)) (u ∷ among (sooner u.delta t) rest us)

unfoldable pub merged_of : List Timed → List Timed → List Timed
merged_of [] us = us
merged_of (t ∷ ts) us = among t (merged_of ts) us

-- one track after another
unfoldable pub merged_with : List Timed → List (List Timed) → List Timed
merged_with ts [] = ts
merged_with ts (us ∷ tss) = merged_with (merged_of ts us) tss

abbrev pub merged_all : List (List Timed) → List Timed
merged_all tss = merged_with [] tss

-- ---- the same with the ticks since the start: of two lists in the order of their ticks one in that order, in which of
-- two events at one tick the first list's is the first

pub record Ticked : Type 0 where
  pub tick : ℕ
  pub event : Event

-- behind so many ticks
unfoldable pub ticks_of : ℕ → List Timed → List Ticked
ticks_of before [] = []
ticks_of before (t ∷ ts) = record { tick = before + t.delta; event = t.event } ∷ ticks_of (before + t.delta) ts

unfoldable pub placed : Ticked → (List Ticked → List Ticked) → List Ticked → List Ticked
placed t rest [] = t ∷ rest []
placed t rest (u ∷ us) = cond (leb t.tick u.tick) (t ∷ rest (u ∷ us)) (u ∷ placed t rest us)

unfoldable pub by_tick : List Ticked → List Ticked → List Ticked
by_tick [] us = us
by_tick (t ∷ ts) us = placed t (by_tick ts) us

unfoldable pub by_track : List Ticked → List (List Timed) → List Ticked
by_track ts [] = ts
by_track ts (us ∷ tss) = by_track (by_tick ts (ticks_of 0 us)) tss
