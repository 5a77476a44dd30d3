-- What is proved of a merged song: `proofs/Heard: heard` proves the record `MergedHeard`. Definitions only.
use Rattle.std.specs.Prelude.{Ok, Err, ◌≡◌, true, List, [], ℕ, ◌*◌, ◌≤◌, length, take}
use Rattle.smf.specs.Faults.{refusal_of}
use Rattle.smf.specs.Cues.{song_of, good_rate, counted_judged, cues_number}
use Rattle.smf.specs.Promised.{Timed, sounds_behind}
use Rattle.smf.specs.declared.faults.Fault.{Fault}
use Rattle.song_grammar.specs.First.{Early}
use Rattle.octets.specs.Octets.{Bytes}
use Rattle.song_merge.specs.declared.Merged.{Merged}
use Rattle.song_merge.specs.Songs.{ManyTracks}
use Rattle.song_merge.specs.Merges.{merged_all, ticks_of, by_track}
use Rattle.song_merge.specs.Answers.{Answers}

-- a song of format 1 that was merged into the front of a list
pub record MergedInto (g : List ℕ) (division : ℕ) (tss : List (List Timed)) : Type 0 where
  pub file : List ℕ
  pub spare : ℕ
  pub out : List ℕ
  pub answer : Merged
  pub answers : Answers file spare out answer
  pub zero : answer.number ≡ 0
  pub song : ManyTracks file division tss
  pub bytes : Bytes g
  pub front : take answer.length out ≡ g

pub record MergedHeard : Type 0 where
  -- it is good where its starts and stops all lie early enough at a rate, and they are those of all tracks
  pub good : (g : List ℕ) (division : ℕ) (tss : List (List Timed)) → MergedInto g division tss
      → (rate : ℕ) → Early rate division (merged_all tss) → (song_of rate g).verdict ≡ Ok tt
  pub listed : (g : List ℕ) (division : ℕ) (tss : List (List Timed)) → MergedInto g division tss
      → (rate : ℕ) → Early rate division (merged_all tss)
      → (song_of rate g).entries ≡ sounds_behind rate division [] (merged_all tss)
  -- so `read_song` takes it, at a good rate and into a list with room
  pub takes : (g : List ℕ) (division : ℕ) (tss : List (List Timed)) → MergedInto g division tss
      → (rate room : ℕ) → good_rate rate ≡ true → Early rate division (merged_all tss)
      → 2 * length (sounds_behind rate division [] (merged_all tss)) ≤ room → cues_number (counted_judged g rate room) ≡ 0
  -- nothing else can be wrong with it
  pub only_late : (g : List ℕ) (division : ℕ) (tss : List (List Timed)) → MergedInto g division tss
      → (rate : ℕ) (why : Fault) → (song_of rate g).verdict ≡ Err why → refusal_of why.reason ≡ 14
  -- its events are those of all tracks, by tick and then by track
  pub ordered : (tss : List (List Timed)) → ticks_of 0 (merged_all tss) ≡ by_track [] tss
