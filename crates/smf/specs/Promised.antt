-- What request 6/12 asks of a song's list, sentence by sentence, said of the definitions that `read_song` is proved to
-- equal. `proofs/Promised: promised` proves it.
use Rattle.std.specs.Prelude.{Result, Ok, Err, ◌≡◌, true, false, not, List, [], ◌∷◌, ◌++◌, ℕ, ◌+◌, ◌*◌, ◌/◌, ◌^◌, ◌≤◌, ◌<◌, eqb, length, drop, ◌≢◌}
use Rattle.std.specs.Float.{binary32}
use Rattle.std.specs.Float.Ieee.{div}
use Rattle.binary32.specs.Leaves.{as_float}
use Rattle.walks.specs.Each.{Each}
use Rattle.smf.specs.Faults.{refusal_of}
use Rattle.smf.specs.Files.{Events, header_of, events_of}
use Rattle.smf.specs.Files.Events.{then, over}
use Rattle.smf.specs.Cues.{
  Entry,
  event_entries,
  tempo_after,
  song_of,
  numbers_of,
  good_rate,
  counted_judged,
  list_of,
  cues_number,
  cue_of,
}
use Rattle.smf.specs.declared.faults.Reason.{Reason}
use Rattle.smf.specs.declared.faults.Reason.TheVariants.{OtherFormat, SmpteDivision, LateFrame}
use Rattle.smf.specs.declared.faults.Fault.{Fault}
use Rattle.smf.specs.declared.events.Event.{Event}
use Rattle.smf.specs.declared.SongRefusal.{SongRefusal}

-- ---- "the frame count of each, worked out exactly over whole numbers and rounded down once from the start of the
-- song"

-- an event and the ticks before it
pub record Timed : Type 0 where
  pub delta : ℕ
  pub event : Event

unfoldable pub timed_of : Events → List Timed
timed_of (over v) = []
timed_of (then delta event next rest) = record { delta = delta; event = event } ∷ timed_of rest

-- events are looked back on, the latest first: the tempo is the last one that was set, or 500,000
unfoldable pub tempo_behind : List Timed → ℕ
tempo_behind [] = 500000
tempo_behind (t ∷ past) = tempo_after (tempo_behind past) t.event

-- the sum of the delta-times, each times the tempo that was set before its event
unfoldable pub tempo_sum : List Timed → ℕ
tempo_sum [] = 0
tempo_sum (t ∷ past) = tempo_sum past + t.delta * tempo_behind past

-- the starts and stops of a list of events, behind others
unfoldable pub sounds_behind : ℕ → ℕ → List Timed → List Timed → List Entry
sounds_behind rate division past [] = []
sounds_behind rate division past (t ∷ rest) =
    event_entries (rate * tempo_sum (t ∷ past) / (division * 10 ^ 6)) t.event ++ sounds_behind rate division (t ∷ past) rest

-- ---- frames along the list: each is at least the one before it
unfoldable pub NeverFall : ℕ → List Entry → Type 0
NeverFall before [] = Unit {0}
NeverFall before (e ∷ es) = (before ≤ e.frame) × NeverFall e.frame es

-- ---- the numbers, in their order
pub record Rows (f : List ℕ) (rate room : ℕ) : Type 0 where
  pub rate_row : good_rate rate ≡ false → cues_number (counted_judged f rate room) ≡ 22
  pub fault_row : (why : Fault) → good_rate rate ≡ true → (song_of rate f).verdict ≡ Err why
      → cues_number (counted_judged f rate room) ≡ refusal_of why.reason
  pub room_row : good_rate rate ≡ true → (song_of rate f).verdict ≡ (Ok tt) → room < 2 * length (song_of rate f).entries
      → cues_number (counted_judged f rate room) ≡ 8
  pub done_row : good_rate rate ≡ true → (song_of rate f).verdict ≡ (Ok tt) → 2 * length (song_of rate f).entries ≤ room
      → cues_number (counted_judged f rate room) ≡ 0

-- 13 for another format or a SMPTE division, 14 for a start or stop later than any frame, 12 for every other fault
pub record FaultNumbers : Type 0 where
  pub format : refusal_of OtherFormat ≡ 13
  pub smpte : refusal_of SmpteDivision ≡ 13
  pub late : refusal_of LateFrame ≡ 14
  pub others : (why : Reason) → why ≢ OtherFormat → why ≢ SmpteDivision → why ≢ LateFrame → refusal_of why ≡ 12

pub record Promised : Type 0 where
  -- a good song's list is that of its events, each start and stop at its exact frame
  pub exact : (rate : ℕ) (f : List ℕ) (division next : ℕ) → header_of f ≡ Ok (division, next)
      → (song_of rate f).verdict ≡ Ok tt
      → (song_of rate f).entries ≡ sounds_behind rate division [] (timed_of (events_of f next))
  -- counts never fall, and none is above 2 ^ 48
  pub in_order : (rate : ℕ) (f : List ℕ) → NeverFall 0 (song_of rate f).entries
  pub in_range : (rate : ℕ) (f : List ℕ) → Each (λ (e : Entry). e.frame ≤ 2 ^ 48) (song_of rate f).entries
  -- "22 for a rate outside its range, first; then 12 .., 13 .., 14 .., whichever stands first in the file; then 8 for a
  -- short list"
  pub song_rows : (f : List ℕ) (rate room : ℕ) → Rows f rate room
  pub fault_numbers : FaultNumbers
  -- "On each the lent list is untouched"; otherwise it begins with the song, and keeps the rest
  pub held : (f : List ℕ) (rate : ℕ) (list : List ℕ) → (cues_number (counted_judged f rate (length list)) ≡ 0 → ⊥)
      → list_of f rate list ≡ list
  pub written : (f : List ℕ) (rate : ℕ) (list : List ℕ) → cues_number (counted_judged f rate (length list)) ≡ 0
      → list_of f rate list ≡ numbers_of (song_of rate f).entries ++ drop (2 * length (song_of rate f).entries) list
  -- a song that is read is good, and the count is that of its starts and stops
  pub counted : (f : List ℕ) (rate room n : ℕ) → counted_judged f rate room ≡ Ok n
      → ((song_of rate f).verdict ≡ Ok tt) × (length (song_of rate f).entries ≡ n)
  -- an entry read back by its packed words: its note and channel stay packed; velocity v is v / 127, in one division,
  -- and it is a start exactly where v isn't 0
  pub read_back : (frame key channel velocity : ℕ) → key < 128 → channel < 16 → velocity < 128
      → cue_of frame (key * 256 + channel + velocity * 65536) ≡ record {
        frame = frame;
        velocity = div binary32 (as_float velocity) (as_float 127);
        note = key * 256 + channel;
        starts = not (eqb velocity 0);
      }
  -- one input, one outcome
  pub settled : (f : List ℕ) (rate : ℕ) (list : List ℕ) (r s : Result ℕ SongRefusal) (l m : List ℕ)
      → r ≡ counted_judged f rate (length list) → s ≡ counted_judged f rate (length list)
      → l ≡ list_of f rate list → m ≡ list_of f rate list → (r ≡ s) × (l ≡ m)
