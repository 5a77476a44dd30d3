-- What is proved of the reader's verdicts by the grammar: `proofs/Judged: judged` proves the record `Judged`.
-- Definitions only.
use Rattle.std.specs.Prelude.{Ok, Err, ◌≡◌, true, List, [], ◌↔◌, ℕ, ◌+◌, ◌*◌, ◌≤◌, length, take}
use Rattle.octets.specs.Octets.{Bytes}
use Rattle.smf.specs.Faults.{refusal_of}
use Rattle.smf.specs.Cues.{song_of, good_rate, counted_judged, cues_number}
use Rattle.smf.specs.Promised.{Timed, sounds_behind}
use Rattle.smf.specs.declared.faults.Fault.{Fault}
use Rattle.song_grammar.specs.Grammar.{File}
use Rattle.song_grammar.specs.First.{Early, OtherKind, Late, FirstFault}

-- a file that the grammar spells, whose starts and stops all lie early enough at a rate
pub record Grammatical (rate : ℕ) (f : List ℕ) : Type 0 where
  pub division : ℕ
  pub events : List Timed
  pub spelt : File f division events
  pub early : Early rate division events

pub record Judged : Type 0 where
  -- these files are good, and no others
  pub good : (rate : ℕ) (f : List ℕ) → Bytes f → ((song_of rate f).verdict ≡ Ok tt) ↔ Grammatical rate f
  -- and the list is that of the events that the grammar spells
  pub listed : (rate : ℕ) (f : List ℕ) → Bytes f → (g : Grammatical rate f)
      → (song_of rate f).entries ≡ sounds_behind rate g.division [] g.events
  -- so `read_song` takes them, at a good rate and into a list with room, and no others
  pub takes : (f : List ℕ) (rate room : ℕ) → Bytes f → good_rate rate ≡ true → (g : Grammatical rate f)
      → 2 * length (sounds_behind rate g.division [] g.events) ≤ room → cues_number (counted_judged f rate room) ≡ 0
  pub takes_only : (f : List ℕ) (rate room n : ℕ) → Bytes f → counted_judged f rate room ≡ Ok n → Grammatical rate f
  -- "whichever stands first in the file": none stands before the fault that is told,
  pub first : (rate : ℕ) (f : List ℕ) → Bytes f → (why : Fault) → (song_of rate f).verdict ≡ Err why
      → FirstFault f why.at
  -- and nothing behind that byte counts: every file with the same bytes up to it is told the same
  pub alike : (rate : ℕ) (f g : List ℕ) → Bytes f → (why : Fault) → (song_of rate f).verdict ≡ Err why
      → take (why.at + 1) g ≡ take (why.at + 1) f → (song_of rate g).verdict ≡ Err why
  -- "13 for another format or a SMPTE division", and for nothing else
  pub thirteen : (rate : ℕ) (f : List ℕ) → Bytes f → (why : Fault) → (song_of rate f).verdict ≡ Err why
      → (refusal_of why.reason ≡ 13) ↔ OtherKind f why.at
  -- 14 for a start or stop that is late, and so for a file that the grammar spells, where it isn't good
  pub fourteen : (rate : ℕ) (f : List ℕ) → Bytes f → (why : Fault) → (song_of rate f).verdict ≡ Err why
      → refusal_of why.reason ≡ 14 → Late rate f why.at
  pub only_late : (rate : ℕ) (f : List ℕ) → Bytes f → (division : ℕ) (ts : List Timed) → File f division ts
      → (why : Fault) → (song_of rate f).verdict ≡ Err why → refusal_of why.reason ≡ 14
