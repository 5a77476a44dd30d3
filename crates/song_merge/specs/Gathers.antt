-- What becomes of two tracks, and of all tracks of a file, in the two lists that are lent. Definitions only.
use Rattle.std.specs.Prelude.{Option, Some, None, Result, Ok, Err, ◌≡◌, cond, List, [], ℕ, ◌+◌, ◌-◌, ◌*◌, ◌^◌, ◌≤◌, ◌<◌, ltb, eqb, length}
use Rattle.octets.specs.Octets.{bytes_at}
use Rattle.smf.specs.Promised.{Timed}
use Rattle.song_merge.specs.declared.merging.Unmerged.{Unmerged}
use Rattle.song_merge.specs.declared.merging.Unmerged.TheVariants.{Short, Broken}
use Rattle.song_merge.specs.Songs.{Tracks}
use Rattle.song_merge.specs.Merges.{merged_of, merged_all}
use Rattle.song_merge.specs.Standing.{TrackStands, Held}
use Rattle.smf.specs.declared.faults.Fault.{Fault}

-- what holds of two tracks, with their sizes: one that stands in a list from 22 up to a place, and one of a file
abbrev pub OfTwo : List ℕ → ℕ → List ℕ → ℕ → ℕ → (List Timed → List Timed → ℕ → ℕ → Type 0) → Type 0
OfTwo a a_end f at end P = (ts us : List Timed) (j k : ℕ) → Held a 0 22 a_end ts j → Held f 0 at end us k → P ts us j k

-- both in one at the front of a list, which ends at r; with r 0 it has no room
pub record Joined (a : List ℕ) (a_end : ℕ) (f : List ℕ) (at end : ℕ) (out : List ℕ) (r : ℕ) : Type 0 where
  pub within : r ≤ length out
  pub merged : OfTwo a a_end f at end (λ ts us j k. 0 < r → Held out 0 0 r (merged_of ts us) (j + k))
  pub long : OfTwo a a_end f at end (λ ts us j k. r ≤ j + k)
  pub room : OfTwo a a_end f at end (λ ts us j k. j + k + 5 ≤ length out → 0 < r)

-- the same where the merged track takes the place of the first
pub record Grown (before : List ℕ) (a_end : ℕ) (f : List ℕ) (at end spare : ℕ) (out : List ℕ) (r : ℕ) : Type 0 where
  pub within : r ≤ length out
  pub some : 0 < r → (22 ≤ r) × (0 < a_end)
  pub merged : OfTwo before a_end f at end (λ ts us j k. 0 < r → Held out 0 22 r (merged_of ts us) (j + k))
  pub long : OfTwo before a_end f at end (λ ts us j k. r ≤ 22 + j + k)
  pub room : OfTwo before a_end f at end (λ ts us j k. j + k + 5 ≤ spare → 22 + j + k ≤ length out → 0 < r)

-- a track without events
pub record Started (out : List ℕ) (r : ℕ) : Type 0 where
  pub within : r ≤ length out
  pub some : 0 < r → 22 ≤ r
  pub empty : 0 < r → Held out 0 22 r [] 4
  pub long : r ≤ 26
  pub room : 29 ≤ length out → 0 < r

-- what is found behind the last track, where the merged one ends at a place; a chunk has less than 2 ^ 32 bytes
unfoldable pub gathered_to : Result (Option ℕ) Fault → ℕ → Result ℕ Unmerged
gathered_to (Ok None) end = cond (eqb end 0) (Err Short) (cond (ltb 0xFFFFFFFF end) (Err Short) (Ok end))
gathered_to (Ok (Some place)) end = Err Broken
gathered_to (Err why) end = Err Broken

-- so many tracks stand in a file from a place on
abbrev pub TracksFrom : List ℕ → ℕ → ℕ → List (List Timed) → Type 0
TracksFrom f at count tss = Tracks (bytes_at (length f - at) f at) tss × (length tss ≡ count)

-- the end of the merged track, which begins at 22; `Broken` where they don't, `Short` where it has no room
pub record GathersTracks (f : List ℕ) (count at spare : ℕ) (out : List ℕ) (r : Result ℕ Unmerged) : Type 0 where
  pub told : (r ≡ Err Broken → ⊥) → (tss : List (List Timed)) × TracksFrom f at count tss
  pub taken : (tss : List (List Timed)) → TracksFrom f at count tss → r ≡ Err Broken → ⊥
  pub merged : (tss : List (List Timed)) → TracksFrom f at count tss → (end : ℕ) → r ≡ Ok end
      → (22 ≤ end) × (end ≤ length out) × (end < 2 ^ 32) × TrackStands out 22 end (merged_all tss)
  pub room : (tss : List (List Timed)) → TracksFrom f at count tss → 14 ≤ at → at < length f → 2 * length f ≤ spare
      → 2 * length f ≤ length out → length f < 2 ^ 31 → r ≡ Err Short → ⊥
