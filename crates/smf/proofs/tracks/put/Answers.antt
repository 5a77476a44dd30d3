-- `put` meets its contract. Assumes nothing.
use native.Mathlib.Numerals.{add-one}
use native.Mathlib.Omega.{arith}
use lib.ListN.{length-set}
use Rattle.smf.specs.Cues.{event_entries, numbers_of}
use Rattle.smf.proofs.tracks.put.Goals as goal

pub returns-then-list-count : goal.returns-then-list-count
unfolding event_entries numbers_of
returns-then-list-count c = let is = c.in-Note.is in record { value = simp is; list_after = λ room. absurd (omega arith) }

pub bounds-list-at-in-Note : goal.bounds-list-at-in-Note
bounds-list-at-in-Note c = simp length-set (omega arith)

pub returns-else-list-count : goal.returns-else-list-count
unfolding event_entries numbers_of
returns-else-list-count c = let is = c.in-Note.is in record { value = simp is; list_after = λ room. simp (is, add-one) }

pub returns-in-Tempo : goal.returns-in-Tempo
unfolding event_entries numbers_of
returns-in-Tempo c = let is = c.in-Tempo.is in record { value = simp is (omega arith); list_after = λ room. simp is }

pub returns-in-Other : goal.returns-in-Other
unfolding event_entries numbers_of
returns-in-Other c = let is = c.in-Other.is in record { value = simp is (omega arith); list_after = λ room. simp is }
