-- The answer of `merge`. Definitions only.
use Rattle.std.specs.Prelude.{Err, ◌≡◌, List, ◌⊎◌, ℕ, ◌*◌, ◌^◌, ◌≤◌, ◌<◌, length, take}
use Rattle.smf.specs.Faults.{refusal_of}
use Rattle.smf.specs.Promised.{Timed}
use Rattle.smf.specs.declared.faults.Fault.{Fault}
use Rattle.song_grammar.specs.Grammar.{File}
use Rattle.song_merge.specs.declared.Merged.{Merged}
use Rattle.song_merge.specs.Songs.{ManyTracks}
use Rattle.song_merge.specs.Merges.{merged_all}
use Rattle.song_merge.specs.Headings.{opened, opening_of}

-- of a file, a spare list of so many bytes, and the list `out` as it is afterwards
pub record Answers (f : List ℕ) (spare : ℕ) (out : List ℕ) (r : Merged) : Type 0 where
  -- 0 or 8 for a good song of format 1, and for no other file
  pub told : (r.number ≡ 0) ⊎ (r.number ≡ 8) → (division : ℕ) × (tss : List (List Timed)) × ManyTracks f division tss
  pub taken : (division : ℕ) (tss : List (List Timed)) → ManyTracks f division tss → (r.number ≡ 0) ⊎ (r.number ≡ 8)
  -- with 0 the front of the list is a file of format 0 with all its events
  pub merged : (division : ℕ) (tss : List (List Timed)) → ManyTracks f division tss → r.number ≡ 0
      → (r.length ≤ length out) × File (take r.length out) division (merged_all tss)
  -- 8 tells a length that is enough for either list, unless no chunk is long enough
  pub short : r.number ≡ 8 → r.length ≡ 2 * length f
  pub room : (division : ℕ) (tss : List (List Timed)) → ManyTracks f division tss → length f < 2 ^ 31 → 2 * length f ≤ spare
      → 2 * length f ≤ length out → r.number ≡ 0
  -- the header is judged as a song's is: 13 for another format or a SMPTE division, where nothing before it is wrong;
  -- all else that can be wrong is 12
  pub heading : (why : Fault) → opening_of f ≡ Err why → r.number ≡ refusal_of why.reason
  pub other : (division count next : ℕ) → opening_of f ≡ opened division count next
      → (r.number ≡ 0) ⊎ ((r.number ≡ 8) ⊎ (r.number ≡ 12))
